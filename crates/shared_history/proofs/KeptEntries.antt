-- What is kept of a history that grows.
use Rattle.std.proofs.Common.{◌≡◌, ℕ, Bool, true, false, List, [], ◌∷◌, ◌++◌, Option, None, Some, refl, sym, ap, ◌∙◌}
use Rattle.denied_calls.proofs.DeniedEntries.{denied_more}
use Rattle.abi_types.specs.declared.call.Call.{Call}
use Rattle.abi_types.specs.declared.reply.Answer.{Answer}
use Rattle.abi_types.specs.declared.wake.WakeIn.{WakeIn}
use Rattle.denied_calls.specs.DeniedCalls.{denied_act, denied_by, denied_calls}
use Rattle.run_types.specs.declared.history.Entry.{Entry}
use Rattle.shared_history.specs.Entries.{act_of}
use Rattle.shared_history.specs.Kept.{kept_of, IsKeptOf, Takes}
use Rattle.shared_history.specs.declared.kept.Kept.{Kept}

-- of one entry more that entry is kept too, if it is to be
entries_more : (all : Bool) (log : List Entry) (e : Entry) → kept_of all (log ++ e ∷ []) ≡ kept_of all log ++ kept_of all (e ∷ [])
entries_more true log e = refl
entries_more false log e = refl

-- of no entry none is
entries_none : (all : Bool) → kept_of all [] ≡ []
entries_none true = refl
entries_none false = refl

pub kept_more : (all : Bool) (log : List Entry) (e : Entry) (before after : Kept) → IsKeptOf all log before → Takes e before after
    → IsKeptOf all (log ++ e ∷ []) after
kept_more all log e before after k t = record {
  all_is = t.all_is ∙ k.all_is;
  entries_are = t.entries_are ∙ (λ i. k.entries_are i ++ kept_of (k.all_is i) (e ∷ [])) ∙ sym (entries_more all log e);
  denied_are = t.denied_are ∙ ap (λ calls. calls ++ denied_calls (e ∷ [])) k.denied_are ∙ sym (denied_more log e);
}

pub kept_none : (all : Bool) (kept : Kept) → kept.all ≡ all → kept.entries.items ≡ [] → kept.denied.items ≡ [] → IsKeptOf all [] kept
kept_none all kept same entries denied = record { all_is = same; entries_are = entries ∙ sym (entries_none all); denied_are = denied }

-- an entry is taken after room was made, by which nothing that is kept changes
pub takes_reserved : (e : Entry) (before reserved after : Kept) → reserved.all ≡ before.all → reserved.entries.items ≡ before.entries.items
    → reserved.denied.items ≡ before.denied.items → Takes e reserved after → Takes e before after
takes_reserved e before reserved after all entries denied t = record {
  all_is = t.all_is ∙ all;
  entries_are = t.entries_are ∙ (λ i. entries i ++ kept_of (all i) (e ∷ []));
  denied_are = t.denied_are ∙ ap (λ calls. calls ++ denied_calls (e ∷ [])) denied;
}

-- a call is denied at a wake as it is where it is answered at once
pub denied_as_call : (pid tid : ℕ) (call : Call) (given : Option WakeIn) (answered : Answer)
    → denied_act pid tid (act_of call given answered) ≡ denied_by pid tid call answered
denied_as_call pid tid call None answered = refl
denied_as_call pid tid call (Some given) answered = refl
