-- The meanings of the calls that read, write and seek at an open's offset are proper.
use Rattle.std.proofs.Common.{◌≡◌, ◌≢◌, inl, inr, ℕ, ◌+◌, ◌==◌, ◌||◌, Bool, true, false, cond, List, [], ◌∷◌, ◌++◌, length, map, Option, Some, None, refl, sym, ap, subst, ◌∙◌}
use Rattle.std.specs.Prelude.{bit_and}
use Rattle.std.specs.FinMap.{get}
use Rattle.std.specs.List.{AllByRecursion}
use Rattle.abi_base.specs.declared.errno.Errno.{Errno}
use Rattle.abi_base.specs.declared.errno.Errno.TheVariants.{Again, Badf, Fbig, Inval, Nomem, Pipe, Success}
use Rattle.abi_types.specs.declared.node.Node.{Node}
use Rattle.abi_types.specs.declared.open_kind.OpenKind.{OpenKind}
use Rattle.abi_types.specs.declared.open_kind.OpenKind.TheVariants.{File, Directory, End, Terminal, Process}
use Rattle.abi_types.specs.declared.reply.Answer.TheVariants as answer
use Rattle.abi_types.specs.declared.reply.Reply.{Reply}
use Rattle.abi_types.specs.declared.stream.Stream.{Stream}
use Rattle.tree_model.specs.Changes.{bytes_in, is_file}
use Rattle.tree_model.specs.Files.{is_beyond, read_bytes}
use Rattle.kernel_model.specs.Families.ChannelCalls.{written_reply}
use Rattle.kernel_model.specs.Families.FileBytes.{overwritten, written_count}
use Rattle.kernel_model.specs.Families.FileOffsets.{OffsetOutcome, as_offset, with_offset, offset_from, seek_to, sought, stays, write_from, write_on, write_place}
use Rattle.kernel_model.specs.Families.OpenMeaning.{OpenMeaning, moved_part}
use Rattle.kernel_model.specs.Outcome.{Outcome, is_parked, replies}
use Rattle.kernel_model.specs.Proper.{AllCarryOn, CarriesOn, IsIn, IsPlain, IsProper, IsUnset, OrWaits, Sender, may_send}
use Rattle.kernel_model.specs.Reply.{content, refused, success}
use Rattle.kernel_model.specs.Sight.{behind}
use Rattle.kernel_model.specs.State.{ProcessState, State, Table, Tree, tree_of, Part, Update, at_node, at_open, at_term, same_part, has_part, part_of, put_all, put_one, set_node, set_open, set_term}
use Rattle.kernel_model.specs.Families.StreamCalls.{fd_read, fd_seek, fd_write, has_offset, read_open, read_term, reading, seek_open, seeking, stream_part, write_open, write_term, writing, written_part}
use Rattle.kernel_model.specs.Families.TreeUpdates.{node_update}
use Rattle.kernel_model.specs.Valid.{IsNearlyValid}
use Rattle.kernel_model.specs.View.{View, restrict, whole}
use Rattle.kernel_model.proofs.Branches.{behind_is_seen, seen_parts}
use Rattle.kernel_model.proofs.ChannelCalls.{Ends, RepliesWell, read_end_reads, read_end_seen, read_ends, read_parks, send_ends, send_parks, send_reads, written_end_seen}
use Rattle.kernel_model.proofs.FileBytes.{overwritten_alike, overwritten_reworks}
use Rattle.kernel_model.proofs.OpenMeanings.{AreOfNoProcess, OpensWell, WaitsWell, by_open_is_proper, or_waits}
use Rattle.kernel_model.proofs.Parts.{outside_cons}
use Rattle.kernel_model.proofs.Reworks.{Alike, Reworks, set_node_nearly_valid}
use Rattle.kernel_model.proofs.Sights.{first_seen}
use Rattle.kernel_model.proofs.Tests.{not_true}
use Rattle.kernel_model.proofs.Valids.{IsSameBehind, set_open_nearly_valid, set_term_nearly_valid}

-- ---- what such a call comes to

-- What is shown of each outcome for an open, where its thread may wait or not: of a state that is seen so, with that open.
record Fine (errors : List Errno) (may_wait : Bool) (touched : List Part) (v : View) (o : ℕ) (kind : Option OpenKind) (outcome : Outcome) : Type 0 where
  apart : AreOfNoProcess outcome.updates
  sets : (q : Part) → has_part touched q ≡ false → IsUnset outcome q
  plain : (p : ℕ) (own : Option ProcessState) → OrWaits may_wait p own outcome (IsPlain errors outcome)
  carries : (S : State) → whole S ≡ v → (table : Table) → AllCarryOn S (table, [], may_send errors) outcome
  valid : (S : State) → whole S ≡ v → get S.opens o ≡ kind → IsNearlyValid S → IsNearlyValid (put_all outcome.updates S)

-- an outcome that is done with this reply
abbrev done : Reply → List Update → Outcome
done reply updates = record { answer = answer.Reply reply; updates = updates }

module _ (errors : List Errno) (may_wait : Bool) (touched : List Part) (v : View) (o : ℕ) where
  fine_refused : (kind : Option OpenKind) (errno : Errno) → IsIn errno errors → Fine errors may_wait touched v o kind (replies (refused errno))
  fine_refused kind errno here =
      record {
        apart = tt;
        sets = λ q h. refl;
        plain = λ p own. or_waits may_wait p own (replies (refused errno)) (IsPlain errors (replies (refused errno))) (refl, inr (refl, here));
        carries = λ S seen table. tt;
        valid = λ S seen there nearly. nearly;
      }

  fine_reply : (kind : Option OpenKind) (reply : Reply) → reply.denial ≡ None → reply.errno ≡ Success → Fine errors may_wait touched v o kind (replies reply)
  fine_reply kind reply plain success =
      record {
        apart = tt;
        sets = λ q h. refl;
        plain = λ p own. or_waits may_wait p own (replies reply) (IsPlain errors (replies reply)) (plain, inl success);
        carries = λ S seen table. tt;
        valid = λ S seen there nearly. nearly;
      }

-- one that is done is plain
done_plainly : (errors : List Errno) (may_wait : Bool) (reply : Reply) (updates : List Update) → reply.denial ≡ None → reply.errno ≡ Success
    → (p : ℕ) (own : Option ProcessState) → OrWaits may_wait p own (done reply updates) (IsPlain errors (done reply updates))
done_plainly errors may_wait reply updates plain success p own =
    or_waits may_wait p own (done reply updates) (IsPlain errors (done reply updates)) (plain, inl success)

-- the offset of a file that is open
same_with_offset : (node old new flags : ℕ) → IsSameBehind (File node old flags) (File node new flags)
same_with_offset node old new flags = record { base = refl; inheriting = refl; behind = λ S h. h; alike = λ k. (refl, refl, refl) }

fine_moved : (errors : List Errno) (may_wait : Bool) (touched : List Part) (v : View) (o node old new flags : ℕ) (reply : Reply) → reply.denial ≡ None
    → reply.errno ≡ Success
    → Fine errors may_wait (at_open o ∷ touched) v o (Some (File node old flags)) (done reply (set_open o (File node new flags) ∷ []))
fine_moved errors may_wait touched v o node old new flags reply plain success = record {
  apart = (tt, tt);
  sets = λ q h. ap (λ b. b || false) (outside_cons (at_open o) touched q h).0;
  plain = done_plainly errors may_wait reply (set_open o (File node new flags) ∷ []) plain success;
  carries = λ S seen table. (tt, tt);
  valid = λ S seen there nearly. set_open_nearly_valid S o (File node old flags) (File node new flags) there (same_with_offset node old new flags) nearly;
}

fine_term : (errors : List Errno) (may_wait : Bool) (v : View) (o which : ℕ) (kind : Option OpenKind) (stream : Stream) (reply : Reply) → reply.denial ≡ None
    → reply.errno ≡ Success → Fine errors may_wait (at_term which ∷ []) v o kind (done reply (set_term which stream ∷ []))
fine_term errors may_wait v o which kind stream reply plain success = record {
  apart = (tt, tt);
  sets = λ q h. h;
  plain = done_plainly errors may_wait reply (set_term which stream ∷ []) plain success;
  carries = λ S seen table. (tt, tt);
  valid = λ S seen there nearly. set_term_nearly_valid S which stream nearly;
}

-- the file is another node then, and the open has moved
module _ (v : View) (w : Tree) (o node old new flags : ℕ) (works : is_file v.branch node ≡ true → Reworks v.branch w node) where
  abbrev written_to : Option Node → List Update
  written_to x = node_update node x ++ set_open o (File node new flags) ∷ []

  written_apart : (x : Option Node) → AreOfNoProcess (written_to x)
  written_apart None = (tt, tt)
  written_apart (Some n) = (tt, (tt, tt))

  written_sets : (x : Option Node) (q : Part) → has_part (at_open o ∷ at_node node ∷ []) q ≡ false → has_part (map part_of (written_to x)) q ≡ false
  written_sets None q h = ap (λ b. b || false) (outside_cons (at_open o) (at_node node ∷ []) q h).0
  written_sets (Some n) q h =
      let apart = outside_cons (at_open o) (at_node node ∷ []) q h in
      let file = outside_cons (at_node node) [] q apart.1 in
      ap (λ b. b || (same_part (at_open o) q || false)) file.0 ∙ ap (λ b. b || false) apart.0

  written_carries : (S : State) (sender : Sender) (x : Option Node) → AllByRecursion (CarriesOn S sender) (written_to x)
  written_carries S sender None = (tt, tt)
  written_carries S sender (Some n) = (tt, (tt, tt))

  written_valid : (S : State) (x : Option Node) → get w.nodes node ≡ x → whole S ≡ v → get S.opens o ≡ Some (File node old flags) → IsNearlyValid S
      → IsNearlyValid (put_all (written_to x) S)
  written_valid S None there seen at nearly =
      set_open_nearly_valid S o (File node old flags) (File node new flags) at (same_with_offset node old new flags) nearly
  written_valid S (Some n) there seen at nearly =
      let tree : tree_of S ≡ v.branch = ap (λ (x : View). x.branch) seen in
      let file : is_file v.branch node ≡ true = ap (λ u. is_file u node) (sym tree) ∙ nearly.behind o (File node old flags) at in
      let other : Reworks (tree_of S) w node = subst (λ u. Reworks u w node) (sym tree) (works file) in
      set_open_nearly_valid (put_one (set_node node n) S) o (File node old flags) (File node new flags) at (same_with_offset node old new flags)
      (set_node_nearly_valid S node n w other there nearly)

  fine_written : (errors : List Errno) (may_wait : Bool) (reply : Reply) → reply.denial ≡ None → reply.errno ≡ Success
      → Fine errors may_wait (at_open o ∷ at_node node ∷ []) v o (Some (File node old flags)) (done reply (written_to (get w.nodes node)))
  fine_written errors may_wait reply plain success = record {
    apart = written_apart (get w.nodes node);
    sets = written_sets (get w.nodes node);
    plain = done_plainly errors may_wait reply (written_to (get w.nodes node)) plain success;
    carries = λ S seen table. written_carries S (table, [], may_send errors) (get w.nodes node);
    valid = λ S seen at nearly. written_valid S (get w.nodes node) refl seen at nearly;
  }

-- a meaning of such outcomes
fine_opens_well : (m : OpenMeaning)
    → ((now : ℕ) (S : State) (p o : ℕ) (kind : Option OpenKind) → m.effect now (restrict S (seen_parts S p o kind)) o kind ≡ m.effect now (whole S) o kind)
    → ((now : ℕ) (v : View) (o : ℕ) (kind : Option OpenKind) → Fine m.errors m.may_wait (moved_part (m.moves kind) o ++ m.touched kind) v o kind (m.effect now v o kind))
    → ((S : State) (kind : Option OpenKind) (q : Part) → has_part (m.touched kind) q ≡ true → has_part (behind S kind) q ≡ true)
    → IsIn Badf m.errors → (m.takes_memory ≡ true → AllByRecursion (λ errno. errno ≢ Nomem) m.errors) → (m.may_wait ≡ true → WaitsWell m) → OpensWell m
fine_opens_well m reads fine seen badf lacks waits = record {
  sees = record { reads = reads; seen = seen; plain = λ now p own v o kind. (fine now v o kind).plain p own; badf = badf; lacks = lacks; waits = waits };
  apart = λ now v o kind. (fine now v o kind).apart;
  sets = λ now v o kind. (fine now v o kind).sets;
  carries = λ now S o kind table. (fine now (whole S) o kind).carries S refl table;
  valid = λ now S o kind there nearly. (fine now (whole S) o kind).valid S refl there nearly;
}

-- an outcome on an end of channels
fine_end : {Q : State → Type 0} {R : Sender → Type 0} (errors : List Errno) (touched : List Part) (o : ℕ) (kind : Option OpenKind) {v : View}
    {outcome : Outcome} → Ends Q R errors touched v o kind outcome
    → ((S : State) → IsNearlyValid S → Q S) → ((table : Table) → R (table, [], may_send errors)) → Fine errors true touched v o kind outcome
fine_end errors touched o kind is fits holds = record {
  apart = is.apart;
  sets = is.sets;
  plain = is.plain;
  carries = λ S seen table. is.carries S seen (table, [], may_send errors) (holds table);
  valid = λ S seen there nearly. is.valid S seen there nearly (fits S nearly);
}

-- ---- fd_write

abbrev write_errors : List Errno
write_errors = Badf ∷ Fbig ∷ Again ∷ Pipe ∷ []

write_badf : IsIn Badf write_errors
write_badf = ([], Fbig ∷ Again ∷ Pipe ∷ [], refl)

write_again : IsIn Again write_errors
write_again = (Badf ∷ Fbig ∷ [], Pipe ∷ [], refl)

write_pipe : IsIn Pipe write_errors
write_pipe = (Badf ∷ Fbig ∷ Again ∷ [], [], refl)

well_written : RepliesWell written_reply
well_written count = (refl, refl)

-- the moves of a write after which the file's node is this one
abbrev written_moves : ℕ → ℕ → ℕ → List ℕ → Option Node → OffsetOutcome
written_moves node flags at bytes new = record {
  outcome = done (success (written_count at bytes) 0) (node_update node new);
  moved = Some (File node (at + written_count at bytes) flags);
}

write_from_alike : (t u : Tree) (node flags now at : ℕ) (bytes : List ℕ) → Alike t u node
    → write_from u node flags now at bytes ≡ write_from t node flags now at bytes
write_from_alike t u node flags now at [] same = refl
write_from_alike t u node flags now at (b ∷ bytes) same =
    ap (λ new. cond (is_beyond at (b ∷ bytes)) (stays (refused Fbig)) (written_moves node flags at (b ∷ bytes) new))
    (sym (overwritten_alike t u node now at (b ∷ bytes) same))

-- the place of a write by the file's node
abbrev place_by : ℕ → ℕ → Option Node → ℕ
place_by offset flags o = cond (bit_and flags 1 == 0) offset (length (bytes_in o))

write_on_alike : (t u : Tree) (node offset flags now : ℕ) (bytes : List ℕ) → Alike t u node
    → write_on u node offset flags now bytes ≡ write_on t node offset flags now bytes
write_on_alike t u node offset flags now bytes same =
    ap (λ o. write_from u node flags now (place_by offset flags o) bytes) (sym same)
    ∙ write_from_alike t u node flags now (write_place t node offset flags) bytes same

write_reads : (bytes : List ℕ) (now : ℕ) (S : State) (p o : ℕ) (kind : Option OpenKind)
    → write_open now (restrict S (seen_parts S p o kind)) bytes o kind ≡ write_open now (whole S) bytes o kind
write_reads bytes now S p o None = refl
write_reads bytes now S p o (Some (Terminal which flags)) = ap (write_term bytes which) (first_seen which false (get S.terms which))
write_reads bytes now S p o (Some (File node offset flags)) =
    ap (with_offset o)
    (write_on_alike (tree_of S) (restrict S (seen_parts S p o (Some (File node offset flags)))).branch node offset flags now bytes
    (behind_is_seen S p o (Some (File node offset flags))))
write_reads bytes now S p o (Some (Directory node flags)) = refl
write_reads bytes now S p o (Some (End reads writes flags form)) = send_reads written_reply S p o bytes [] reads writes flags form
write_reads bytes now S p o (Some (Process q object)) = refl

write_term_fine : (bytes : List ℕ) (v : View) (o which flags : ℕ) (stream : Option Stream)
    → Fine write_errors true (at_term which ∷ []) v o (Some (Terminal which flags)) (write_term bytes which stream)
write_term_fine bytes v o which flags None = fine_refused _ _ _ _ _ _ Badf ([], _, refl)
write_term_fine bytes v o which flags (Some stream) = fine_term _ _ _ _ which _ _ _ refl refl

either_fine : (b : Bool) (errors : List Errno) (may_wait : Bool) (touched : List Part) (v : View) (o : ℕ) (kind : Option OpenKind) (m n : OffsetOutcome)
    → Fine errors may_wait touched v o kind (with_offset o m) → Fine errors may_wait touched v o kind (with_offset o n)
    → Fine errors may_wait touched v o kind (with_offset o (cond b m n))
either_fine true errors may_wait touched v o kind m n first second = first
either_fine false errors may_wait touched v o kind m n first second = second

write_from_fine : (v : View) (o node offset flags now at : ℕ) (bytes : List ℕ)
    → Fine write_errors true (at_open o ∷ at_node node ∷ []) v o (Some (File node offset flags)) (with_offset o (write_from v.branch node flags now at bytes))
write_from_fine v o node offset flags now at [] = fine_reply _ _ _ _ _ _ (success 0 0) refl refl
write_from_fine v o node offset flags now at (b ∷ bytes) =
    let t : Tree = v.branch in
    either_fine (is_beyond at (b ∷ bytes)) _ _ _ v o _ (stays (refused Fbig))
    (written_moves node flags at (b ∷ bytes) (get (overwritten t node now at (b ∷ bytes)).nodes node))
    (fine_refused _ _ _ _ _ _ Fbig (Badf ∷ [], Again ∷ Pipe ∷ [], refl))
    (fine_written v (overwritten t node now at (b ∷ bytes)) o node offset (at + written_count at (b ∷ bytes)) flags
    (overwritten_reworks t node now at (b ∷ bytes)) write_errors true (success (written_count at (b ∷ bytes)) 0) refl refl)

write_fine : (bytes : List ℕ) (now : ℕ) (v : View) (o : ℕ) (kind : Option OpenKind)
    → Fine write_errors true (moved_part (has_offset kind) o ++ written_part kind) v o kind (write_open now v bytes o kind)
write_fine bytes now v o None = fine_refused _ _ _ _ _ _ Badf ([], _, refl)
write_fine bytes now v o (Some (Terminal which flags)) = write_term_fine bytes v o which flags (v.term which)
write_fine bytes now v o (Some (File node offset flags)) =
    write_from_fine v o node offset flags now (write_place v.branch node offset flags) bytes
write_fine bytes now v o (Some (Directory node flags)) = fine_refused _ _ _ _ _ _ Badf ([], _, refl)
write_fine bytes now v o (Some (End reads writes flags form)) =
    fine_end _ _ _ _ (send_ends written_reply well_written write_errors write_badf write_again write_pipe v o bytes [] reads writes flags form) (λ S nearly. tt)
    (λ table. (inl refl, refl))
write_fine bytes now v o (Some (Process p object)) = fine_refused _ _ _ _ _ _ Badf ([], _, refl)

written_is_seen : (S : State) (kind : Option OpenKind) (q : Part) → has_part (written_part kind) q ≡ true → has_part (behind S kind) q ≡ true
written_is_seen S None q h = h
written_is_seen S (Some (Terminal which flags)) q h = h
written_is_seen S (Some (File node offset flags)) q h = h
written_is_seen S (Some (Directory node flags)) q h = absurd (not_true h)
written_is_seen S (Some (End reads writes flags form)) q h = written_end_seen S reads writes flags form q h
written_is_seen S (Some (Process p object)) q h = absurd (not_true h)

-- only a write to an end waits, whenever it comes
write_waits : (bytes : List ℕ) → WaitsWell (writing bytes)
write_waits bytes = record { patient = λ now before v clock o kind. still now before v clock o kind; keeps = refl } where
  written : (t : Tree) (node flags now at : ℕ) (bytes : List ℕ) → is_parked (write_from t node flags now at bytes).outcome.answer ≡ false
  written t node flags now at [] = refl
  written t node flags now at (b ∷ bytes) =
      elim (is_beyond at (b ∷ bytes)) as (λ beyond. is_parked (cond beyond (stays (refused Fbig))
      (written_moves node flags at (b ∷ bytes) (get (overwritten t node now at (b ∷ bytes)).nodes node))).outcome.answer ≡ false) [ true ↦ refl | false ↦ refl ]

  to_term : (which : ℕ) (stream : Option Stream) → is_parked (write_term bytes which stream).answer ≡ false
  to_term which None = refl
  to_term which (Some stream) = refl

  still : (now before : ℕ) (v : View) (clock o : ℕ) (kind : Option OpenKind) → is_parked (write_open now v bytes o kind).answer ≡ true
      → is_parked (write_open before (record v { clock = clock }) bytes o kind).answer ≡ true
  still now before v clock o None h = absurd (not_true h)
  still now before v clock o (Some (Terminal which flags)) h = absurd (not_true (sym (to_term which (v.term which)) ∙ h))
  still now before v clock o (Some (File node offset flags)) h =
      absurd (not_true (sym (written v.branch node flags now (write_place v.branch node offset flags) bytes) ∙ h))
  still now before v clock o (Some (Directory node flags)) h = absurd (not_true h)
  still now before v clock o (Some (End reads writes flags form)) h = send_parks written_reply v clock flags bytes [] writes h
  still now before v clock o (Some (Process p object)) h = absurd (not_true h)

pub write_opens_well : (bytes : List ℕ) → OpensWell (writing bytes)
write_opens_well bytes =
    fine_opens_well (writing bytes) (write_reads bytes) (write_fine bytes) written_is_seen write_badf
    (λ _. ((λ e. cc), ((λ e. cc), ((λ e. cc), ((λ e. cc), tt))))) (λ _. write_waits bytes)

pub fd_write_is_proper : (fd : ℕ) (bytes : List ℕ) → IsProper (fd_write fd bytes)
fd_write_is_proper fd bytes = by_open_is_proper (writing bytes) (write_opens_well bytes) _

-- ---- fd_read

abbrev read_errors : List Errno
read_errors = Badf ∷ Again ∷ []

read_badf : IsIn Badf read_errors
read_badf = ([], Again ∷ [], refl)

read_again : IsIn Again read_errors
read_again = (Badf ∷ [], [], refl)

-- the moves of a read of a file with these bytes
abbrev read_moves : ℕ → ℕ → ℕ → ℕ → List ℕ → OffsetOutcome
read_moves node offset flags n bytes = record {
  outcome = replies (content (read_bytes bytes offset n));
  moved = Some (File node (offset + length (read_bytes bytes offset n)) flags);
}

read_reads : (n now : ℕ) (S : State) (p o : ℕ) (kind : Option OpenKind)
    → read_open (restrict S (seen_parts S p o kind)) n o kind ≡ read_open (whole S) n o kind
read_reads n now S p o None = refl
read_reads n now S p o (Some (Terminal which flags)) = ap (read_term n which) (first_seen which false (get S.terms which))
read_reads n now S p o (Some (File node offset flags)) =
    ap (λ x. with_offset o (read_moves node offset flags n (bytes_in x))) (sym (behind_is_seen S p o (Some (File node offset flags))))
read_reads n now S p o (Some (Directory node flags)) = refl
read_reads n now S p o (Some (End reads writes flags form)) = read_end_reads S p o n reads writes flags form
read_reads n now S p o (Some (Process q object)) = refl

read_term_fine : (n : ℕ) (v : View) (o which flags : ℕ) (stream : Option Stream)
    → Fine read_errors true (at_term which ∷ []) v o (Some (Terminal which flags)) (read_term n which stream)
read_term_fine n v o which flags None = fine_refused _ _ _ _ _ _ Badf ([], _, refl)
read_term_fine n v o which flags (Some stream) = fine_term _ _ _ _ which _ _ _ refl refl

read_fine : (n now : ℕ) (v : View) (o : ℕ) (kind : Option OpenKind) → Fine read_errors true (moved_part (has_offset kind) o ++ stream_part kind) v o kind (read_open v n o kind)
read_fine n now v o None = fine_refused _ _ _ _ _ _ Badf ([], _, refl)
read_fine n now v o (Some (Terminal which flags)) = read_term_fine n v o which flags (v.term which)
read_fine n now v o (Some (File node offset flags)) = fine_moved _ _ _ _ o node offset _ flags _ refl refl
read_fine n now v o (Some (Directory node flags)) = fine_refused _ _ _ _ _ _ Badf ([], _, refl)
read_fine n now v o (Some (End reads writes flags form)) =
    fine_end _ _ _ _ (read_ends read_errors read_badf read_again v o n reads writes flags form) (λ S nearly. tt) (λ table. tt)
read_fine n now v o (Some (Process p object)) = fine_refused _ _ _ _ _ _ Badf ([], _, refl)

stream_is_seen : (S : State) (kind : Option OpenKind) (q : Part) → has_part (stream_part kind) q ≡ true → has_part (behind S kind) q ≡ true
stream_is_seen S None q h = h
stream_is_seen S (Some (Terminal which flags)) q h = h
stream_is_seen S (Some (File node offset flags)) q h = absurd (not_true h)
stream_is_seen S (Some (Directory node flags)) q h = absurd (not_true h)
stream_is_seen S (Some (End reads writes flags form)) q h = read_end_seen S reads writes flags form q h
stream_is_seen S (Some (Process p object)) q h = absurd (not_true h)

-- only a read from an end waits, whenever it comes
read_waits : (n : ℕ) → WaitsWell (reading n)
read_waits n = record { patient = λ now before v clock o kind. still v clock o kind; keeps = refl } where
  from_term : (which : ℕ) (stream : Option Stream) → is_parked (read_term n which stream).answer ≡ false
  from_term which None = refl
  from_term which (Some stream) = refl

  still : (v : View) (clock o : ℕ) (kind : Option OpenKind) → is_parked (read_open v n o kind).answer ≡ true
      → is_parked (read_open (record v { clock = clock }) n o kind).answer ≡ true
  still v clock o None h = absurd (not_true h)
  still v clock o (Some (Terminal which flags)) h = absurd (not_true (sym (from_term which (v.term which)) ∙ h))
  still v clock o (Some (File node offset flags)) h = absurd (not_true h)
  still v clock o (Some (Directory node flags)) h = absurd (not_true h)
  still v clock o (Some (End reads writes flags form)) h = read_parks v clock n flags reads h
  still v clock o (Some (Process p object)) h = absurd (not_true h)

pub read_opens_well : (n : ℕ) → OpensWell (reading n)
read_opens_well n =
    fine_opens_well (reading n) (read_reads n) (read_fine n) stream_is_seen read_badf (λ _. ((λ e. cc), ((λ e. cc), tt))) (λ _. read_waits n)

pub fd_read_is_proper : (fd n : ℕ) → IsProper (fd_read fd n)
fd_read_is_proper fd n = by_open_is_proper (reading n) (read_opens_well n) _

-- ---- fd_seek

module _ (bits whence : ℕ) where
  -- where the file with this node is sought
  abbrev sought_by : ℕ → Option Node → Option ℕ
  sought_by offset o =
      cond (whence == 1) (offset_from offset bits)
      (cond (whence == 2) (offset_from (length (bytes_in o)) bits) (cond (whence == 3) (as_offset bits) None))

  seek_reads : (now : ℕ) (S : State) (p o : ℕ) (kind : Option OpenKind)
      → seek_open (restrict S (seen_parts S p o kind)) bits whence o kind ≡ seek_open (whole S) bits whence o kind
  seek_reads now S p o None = refl
  seek_reads now S p o (Some (Terminal which flags)) = refl
  seek_reads now S p o (Some (File node offset flags)) =
      ap (λ x. with_offset o (seek_to node flags (sought_by offset x))) (sym (behind_is_seen S p o (Some (File node offset flags))))
  seek_reads now S p o (Some (Directory node flags)) = refl
  seek_reads now S p o (Some (End reads writes flags form)) = refl
  seek_reads now S p o (Some (Process q object)) = refl

  seek_to_fine : (v : View) (o node offset flags : ℕ) (place : Option ℕ)
      → Fine (Badf ∷ Inval ∷ []) false (at_open o ∷ []) v o (Some (File node offset flags)) (with_offset o (seek_to node flags place))
  seek_to_fine v o node offset flags None = fine_refused _ _ _ _ _ _ Inval (Badf ∷ [], [], refl)
  seek_to_fine v o node offset flags (Some place) = fine_moved _ _ _ _ o node offset place flags _ refl refl

  seek_fine : (now : ℕ) (v : View) (o : ℕ) (kind : Option OpenKind) → Fine (Badf ∷ Inval ∷ []) false (moved_part (has_offset kind) o ++ []) v o kind (seek_open v bits whence o kind)
  seek_fine now v o None = fine_refused _ _ _ _ _ _ Badf ([], _, refl)
  seek_fine now v o (Some (Terminal which flags)) = fine_refused _ _ _ _ _ _ Badf ([], _, refl)
  seek_fine now v o (Some (File node offset flags)) = seek_to_fine v o node offset flags (sought v.branch node offset bits whence)
  seek_fine now v o (Some (Directory node flags)) = fine_refused _ _ _ _ _ _ Badf ([], _, refl)
  seek_fine now v o (Some (End reads writes flags form)) = fine_refused _ _ _ _ _ _ Badf ([], _, refl)
  seek_fine now v o (Some (Process p object)) = fine_refused _ _ _ _ _ _ Badf ([], _, refl)

  pub seek_opens_well : OpensWell (seeking bits whence)
  seek_opens_well =
      fine_opens_well (seeking bits whence) seek_reads seek_fine (λ S kind q h. absurd (not_true h)) ([], Inval ∷ [], refl) (λ h. absurd (not_true h))
      (λ h. absurd (not_true h))

  pub fd_seek_is_proper : (fd : ℕ) → IsProper (fd_seek fd bits whence)
  fd_seek_is_proper fd = by_open_is_proper (seeking bits whence) seek_opens_well _
