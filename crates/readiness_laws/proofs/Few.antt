-- At which spots threads stand, call by call.
--     spots_are_few
use Rattle.std.proofs.Common.{◌≡◌, ℕ, false, [], ◌∷◌, ◌++◌, Option, Some, refl, ap, ◌∙◌}
use Rattle.std.specs.FinMap.{get}
use Rattle.abi_types.specs.declared.call.Call.{Call}
use Rattle.abi_types.specs.declared.open_kind.OpenKind.{OpenKind}
use Rattle.kernel_model.specs.Calls.{meaning_of}
use Rattle.kernel_model.specs.State.{State}
use Rattle.readiness_laws.specs.SpotLaws.{SpotsAreFew, WaitsOn, standing}
use Rattle.readiness_laws.specs.Spots.{Look, behind_spots, call_spots, descriptor_spots, with_flags, looks_of, on_open, on_table, on_thread, spots, table_spots, waiting_spots}

-- a call that isn't by stage and looks at one open
by_open : (S : State) (p t : ℕ) (call : Call) (until : Option ℕ) (look : Look) (o : ℕ) (kind : OpenKind) → (meaning_of call).by_stage ≡ false
    → looks_of call ≡ look ∷ [] → WaitsOn S p t call until look.fd o kind
    → spots S p t ≡ standing p t until (on_table p ∷ on_open o ∷ with_flags look.flags o (behind_spots look.purpose (Some kind)) ++ [])
by_open S p t call until look o kind plain looks w =
    ap (λ x. on_thread p t ∷ waiting_spots S p x) w.waits
    ∙ ap (λ b. standing p t until (call_spots b S p call)) plain
    ∙ (λ i. standing p t until (on_table p ∷ table_spots S.opens (w.own i) (looks i)))
    ∙ ap (λ x. standing p t until (on_table p ∷ descriptor_spots S.opens look x ++ [])) w.there
    ∙ ap (λ n. standing p t until (on_table p ∷ on_open n ∷ with_flags look.flags n (behind_spots look.purpose (get S.opens n)) ++ [])) w.names
    ∙ ap (λ x. standing p t until (on_table p ∷ on_open o ∷ with_flags look.flags o (behind_spots look.purpose x) ++ [])) w.opened

pub spots_are_few : SpotsAreFew
spots_are_few = record {
  reads = λ S p t fd n o c flags until writes form w. by_open S p t _ until _ o _ refl refl w;
  writes = λ S p t fd o c flags bytes until reads form w. by_open S p t _ until _ o _ refl refl w;
  receives = λ S p t fd n room mode o c flags until writes form w. by_open S p t _ until _ o _ refl refl w;
  sends = λ S p t fd mode o c flags bytes fds until reads form w. by_open S p t _ until _ o _ refl refl w;
  polls_read = λ S p t userdata fd o c flags until writes form w. by_open S p t _ until _ o _ refl refl w;
  polls_write = λ S p t userdata fd o c flags until reads form w. by_open S p t _ until _ o _ refl refl w;
  polls_end = λ S p t userdata fd o q object until w. by_open S p t _ until _ o _ refl refl w;
  locks = λ S p t since call until stage by_stage is.
      ap (λ x. on_thread p t ∷ waiting_spots S p x) is ∙ ap (λ b. standing p t until (call_spots b S p call)) by_stage;
  runs = λ S p t is. ap (λ x. on_thread p t ∷ waiting_spots S p x) is;
}
