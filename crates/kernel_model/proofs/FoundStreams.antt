-- No call on an open that is read or written where the last one ended, and no mapping, answers BADF of its own in a valid state.
--     fd_read_found, fd_seek_found, fd_write_found      calls on such opens
--     mem_map_found      a mapping, unless BADF is why it has no place
use Rattle.std.proofs.Common.{◌≡◌, ◌⊎◌, inl, inr, ℕ, ◌&&◌, ◌||◌, ◌==◌, Bool, true, false, cond, List, [], ◌∷◌, Option, Some, None, IsSome, T, is_some, refl, sym, subst, arith}
use Rattle.std.proofs.lemmas.Bool.{eqb-true}
use Rattle.std.specs.Int.{bit_at}
use Rattle.std.specs.Prelude.{bit_and}
use Rattle.std.specs.FinMap.{get}
use Rattle.abi_base.proofs.Bits.{has-meet}
use Rattle.abi_base.specs.Rights.{Has}
use Rattle.abi_base.specs.declared.rights.TheConstants.Rights.{FD_READ, FD_SEEK, FD_TELL, FD_WRITE, MEM_MAP, MEM_MAP_EXEC, NONE}
use Rattle.abi_types.specs.Families.{is_anonymous}
use Rattle.abi_types.specs.declared.descriptor.Descriptor.{Descriptor}
use Rattle.abi_types.specs.declared.needed.Needed.{Needed}
use Rattle.abi_types.specs.OpenTypes.{rights_of}
use Rattle.abi_types.specs.declared.open_type.OpenType.TheVariants as type
use Rattle.abi_types.specs.declared.open_kind.OpenKind.{OpenKind}
use Rattle.abi_types.specs.declared.open_kind.OpenKind.TheVariants.{File}
use Rattle.abi_types.specs.declared.place.Place.{Place}
use Rattle.abi_types.specs.declared.place.Place.TheVariants as place
use Rattle.abi_types.specs.declared.stream.Stream.{Stream}
use Rattle.abi_base.specs.declared.errno.Errno.TheVariants.{Badf}
use Rattle.abi_types.specs.declared.reply.Answer.TheVariants as answer
use Rattle.abi_types.specs.declared.reply.Reply.{Reply}
use Rattle.tree_model.specs.Changes.{is_file}
use Rattle.tree_model.specs.Files.{is_beyond}
use Rattle.kernel_model.specs.CallBounds.{HasBadfPlace}
use Rattle.kernel_model.specs.Channels.{Push, hung, full, sends, Pulled, must_wait, pull, push}
use Rattle.kernel_model.specs.Families.ChannelCalls.{is_nonblocking, read_end, read_from, read_if, send_on, send_to, sent_by, waits_unless, written_reply}
use Rattle.kernel_model.specs.Families.FileMeaning.{on_open}
use Rattle.kernel_model.specs.Families.FileOffsets.{OffsetOutcome, seek_to, sought, write_from, write_place}
use Rattle.kernel_model.specs.Families.MemoryCalls.{map_open, map_row, map_zeros, mapping, mem_map, placed, placed_with}
use Rattle.kernel_model.specs.Families.StreamCalls.{fd_read, fd_seek, fd_write, read_open, read_term, reading, seek_open, seek_row, seeking, write_open, write_term, writing}
use Rattle.kernel_model.specs.Outcome.{WhereReply}
use Rattle.kernel_model.specs.Rows.{base_row, both, either_row}
use Rattle.kernel_model.specs.State.{State, Tree, tree_of}
use Rattle.kernel_model.specs.Step.{tick}
use Rattle.kernel_model.specs.Fits.{end_type, fits}
use Rattle.kernel_model.specs.Valid.{HasReader, HasWriter, IsNearlyValid}
use Rattle.kernel_model.specs.View.{whole}
use Rattle.kernel_model.proofs.ChannelCalls.{RepliesWell}
use Rattle.kernel_model.proofs.FoundOpens.{IsGranted, NeverBadf, OnlyWhere, at_file, by_kind, by_open_found, either, file_alone, granted, granted_base, held_fits, on_open_found, zero_or_one}

-- ---- opens that are read and written

write_term_found : (bytes : List ℕ) (which : ℕ) (o : Option Stream) → IsSome o → OnlyWhere ⊥ (write_term bytes which o)
write_term_found bytes which None some = absurd (subst T (sym some) tt)
write_term_found bytes which (Some stream) some = λ e. cc

read_term_found : (n which : ℕ) (o : Option Stream) → IsSome o → OnlyWhere ⊥ (read_term n which o)
read_term_found n which None some = absurd (subst T (sym some) tt)
read_term_found n which (Some stream) some = λ e. cc

-- an end with the right to write writes a channel, and one with the right to read reads one
pub writes_one : (reads writes : Option ℕ) → (is_some reads || is_some writes) ≡ true → Has (rights_of (end_type reads writes)) 6 → IsSome writes
writes_one reads (Some w) some right = refl
writes_one (Some r) None some right = absurd (zero_or_one (bit_at (rights_of type.Reading) 6) refl right)
writes_one None None some right = some

pub reads_one : (reads writes : Option ℕ) → Has (rights_of (end_type reads writes)) 1 → IsSome reads
reads_one (Some r) writes right = refl
reads_one None writes right = absurd (zero_or_one (bit_at (rights_of type.Writing) 1) refl right)

pub waits_found : (nonblocking : Bool) → OnlyWhere ⊥ (waits_unless nonblocking)
waits_found true = λ e. cc
waits_found false = tt

-- what is sent to a channel that is there, and what is read from one
module _ (reply : ℕ → Reply) (well : RepliesWell reply) where
  sent_found : (nonblocking : Bool) (c : ℕ) (p : Push) → OnlyWhere ⊥ (sent_by reply nonblocking c p)
  sent_found nonblocking c hung = λ e. cc
  sent_found nonblocking c full = waits_found nonblocking
  sent_found nonblocking c (sends count channel) = λ e. let done = (well count).1 in cc

  pub send_found : (S : State) (flags : ℕ) (bytes : List ℕ) (carried : List Descriptor) (writes : Option ℕ) → HasWriter S.chans writes → IsSome writes
      → OnlyWhere ⊥ (send_on reply (whole (tick S)) flags bytes carried writes)
  send_found S flags [] carried writes has some = λ e. let done = (well 0).1 in cc
  send_found S flags (b ∷ bytes) carried None has some = absurd (subst T (sym some) tt)
  send_found S flags (b ∷ bytes) carried (Some c) has some =
      subst (λ x. OnlyWhere ⊥ (send_to reply (is_nonblocking flags) (b ∷ bytes) carried c x)) (sym has.1)
      (sent_found (is_nonblocking flags) c (push (b ∷ bytes) carried has.0))

read_if_found : (waits nonblocking : Bool) (c : ℕ) (pulled : Pulled) → OnlyWhere ⊥ (read_if waits nonblocking c pulled)
read_if_found true nonblocking c pulled = waits_found nonblocking
read_if_found false nonblocking c pulled = λ e. cc

read_end_found : (S : State) (n flags : ℕ) (reads : Option ℕ) → HasReader S.chans reads → IsSome reads → OnlyWhere ⊥ (read_end (whole (tick S)) n flags reads)
read_end_found S n flags None has some = absurd (subst T (sym some) tt)
read_end_found S n flags (Some c) has some =
    subst (λ x. OnlyWhere ⊥ (read_from n (is_nonblocking flags) c x)) (sym has.1)
    (read_if_found (must_wait n has.0) (is_nonblocking flags) c (pull n has.0))

-- an outcome with an offset is BADF for nothing
abbrev OffsetFound : OffsetOutcome → Type 0
OffsetFound m = OnlyWhere ⊥ m.outcome

write_found : (t : Tree) (node flags now at : ℕ) (bytes : List ℕ) → OffsetFound (write_from t node flags now at bytes)
write_found t node flags now at [] = λ e. cc
write_found t node flags now at (b ∷ bytes) = either OffsetFound (is_beyond at (b ∷ bytes)) _ _ (λ e. cc) (λ e. cc)

seek_found : (node flags : ℕ) (o : Option ℕ) → OffsetFound (seek_to node flags o)
seek_found node flags None = λ e. cc
seek_found node flags (Some place) = λ e. cc

module _ (S : State) (nearly : IsNearlyValid S) where
  pub fd_write_found : (fd : ℕ) (bytes : List ℕ) → NeverBadf ⊥ S (fd_write fd bytes)
  fd_write_found fd bytes =
      by_open_found S nearly ⊥ (base_row fd FD_WRITE) (writing bytes)
      (λ now o kind g.
      by_kind S (λ k. Has (fits k) 6 → OnlyWhere ⊥ (write_open now (whole (tick S)) bytes o (Some k)))
      (λ node offset flags file right. write_found (tree_of S) node flags now (write_place (tree_of S) node offset flags) bytes)
      (λ node flags directory right. absurd (zero_or_one (bit_at (rights_of type.Directory) 6) refl right))
      (λ reads writes flags form behind right.
      send_found written_reply (λ count. (refl, refl)) S flags bytes [] writes behind.2 (writes_one reads writes behind.0 right))
      (λ which flags stream right. write_term_found bytes which (get S.terms which) stream)
      (λ p object right. absurd (zero_or_one (bit_at (rights_of type.Process) 6) refl right)) kind g.behind
      (granted_base g 6 (omega arith) refl refl))

  pub fd_read_found : (fd n : ℕ) → NeverBadf ⊥ S (fd_read fd n)
  fd_read_found fd n =
      by_open_found S nearly ⊥ (base_row fd FD_READ) (reading n)
      (λ now o kind g.
      by_kind S (λ k. Has (fits k) 1 → OnlyWhere ⊥ (read_open (whole (tick S)) n o (Some k)))
      (λ node offset flags file right. λ e. cc)
      (λ node flags directory right. absurd (zero_or_one (bit_at (rights_of type.Directory) 1) refl right))
      (λ reads writes flags form behind right. read_end_found S n flags reads behind.1 (reads_one reads writes right))
      (λ which flags stream right. read_term_found n which (get S.terms which) stream)
      (λ p object right. absurd (zero_or_one (bit_at (rights_of type.Process) 1) refl right)) kind g.behind
      (granted_base g 1 (omega arith) refl refl))

  -- who seeks has FD_SEEK, or FD_TELL where that will do
  seek_right : (fd : ℕ) (kind : OpenKind) (reports : Bool) → IsGranted S (cond reports (either_row fd FD_TELL FD_SEEK) (base_row fd FD_SEEK)) kind
      → Has (fits kind) 5 ⊎ Has (fits kind) 2
  seek_right fd kind true g =
      elim (granted g 5 (omega arith) refl) [
        | inl tell ↦ inl tell
        | inr instead ↦ inr (held_fits g 2 ((has-meet g.d.base.0 4 2).0 (subst (λ n. Has n 2) (sym (eqb-true _ _ instead)) refl)).0)
      ]
  seek_right fd kind false g = inr (granted_base g 2 (omega arith) refl refl)

  pub fd_seek_found : (fd bits whence : ℕ) → NeverBadf ⊥ S (fd_seek fd bits whence)
  fd_seek_found fd bits whence =
      by_open_found S nearly ⊥ (seek_row fd bits whence) (seeking bits whence)
      (λ now o kind g.
      let P : OpenKind → Type 0 = λ k. OnlyWhere ⊥ (seek_open (whole (tick S)) bits whence o (Some k)) in
      let file : (node offset flags : ℕ) → is_file (tree_of S) node ≡ true → P (File node offset flags) =
      λ node offset flags there. seek_found node flags (sought (tree_of S) node offset bits whence) in
      elim (seek_right fd kind ((bits == 0) && (whence == 1)) g) [
        | inl tell ↦ file_alone S P 5 ((omega arith, refl, refl, refl, refl), refl) file kind g.behind tell
        | inr seek ↦ file_alone S P 2 ((omega arith, refl, refl, refl, refl), refl) file kind g.behind seek
      ])

-- ---- mem_map

placed_found : (place : Place) → WhereReply (λ (reply : Reply). reply.errno ≡ Badf → HasBadfPlace place) (answer.Reply (placed place))
placed_found (place.At address) = λ e. cc
placed_found (place.Refused errno) = λ e. e

placed_with_found : (place : Place) (bytes : List ℕ) → WhereReply (λ (reply : Reply). reply.errno ≡ Badf → HasBadfPlace place) (answer.Reply (placed_with place bytes))
placed_with_found (place.At address) bytes = λ e. cc
placed_with_found (place.Refused errno) bytes = λ e. e

-- the right to map is needed whatever else is
map_needed : (fd prot : ℕ) → Has (map_row fd prot).base.0 26
map_needed fd prot =
    elim (bit_and prot 1 == 0) as (λ b. Has (both (both MEM_MAP FD_READ) (cond b NONE MEM_MAP_EXEC)).0 26) [ true ↦ refl | false ↦ refl ]

module _ (S : State) (nearly : IsNearlyValid S) where
  map_found : (place : Place) (length : ℕ) (anonymous : Bool) (row : Needed) (offset : ℕ) → row.instead.0 ≡ 0 → Has row.base.0 26
      → NeverBadf (HasBadfPlace place) S (cond anonymous (map_zeros place) (on_open row (mapping place length offset)))
  map_found place length true row offset alone needs = λ constants who table own all met. placed_found place
  map_found place length false row offset alone needs =
      on_open_found S nearly (HasBadfPlace place) row (mapping place length offset)
      (λ now.
      at_file S (λ k. OnlyWhere (HasBadfPlace place) (map_open place length offset (tree_of S) (Some k))) 26 row alone needs
      ((omega arith, refl, refl, refl, refl), refl) (λ node at flags file. placed_with_found place _))

  pub mem_map_found : (place : Place) (length prot flags fd offset : ℕ) → NeverBadf (HasBadfPlace place) S (mem_map place length prot flags fd offset)
  mem_map_found place length prot flags fd offset =
      map_found place length (is_anonymous flags) (map_row fd prot) offset refl (map_needed fd prot)
