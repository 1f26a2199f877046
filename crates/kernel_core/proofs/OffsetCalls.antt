-- Calls that move the open of a descriptor: what their meanings come to by the table, and the state after them.
--     offset_does      a call means what its outcome is
--     absent_comes      without a descriptor or an open it comes to BADF
--     stream_is, stream_outcome_is, stream_done      on a standard stream;  it is done there
--     end_outcome_is      on an end of channels
--     offset_is, offset_outcome_is, offset_keeps      on any other open: it moves the open and changes the file tree;  it keeps what stands behind the open
--     offset_looked      what waiting threads look at of the open is the same
--     offset_valid, offset_done      the state after it is valid, and that of its outcome, of which nothing is released
use Rattle.std.proofs.Common.{◌≡◌, ◌≢◌, ℕ, ◌+◌, ◌==◌, ◌&&◌, Bool, true, false, cond, List, [], ◌∷◌, ◌++◌, Option, None, Some, Result, Ok, Err, refl, sym, ap, subst, ◌∙◌}
use Rattle.std.specs.Ordering.{nat_cmp}
use Rattle.std.specs.FinMap.{FinMap, get, insert}
use Rattle.std.specs.List.{AllByRecursion}
use Rattle.std.specs.declared.alloc.AllocError.{AllocError}
use Rattle.abi_base.specs.declared.errno.Errno.TheVariants.{Badf, Fbig}
use Rattle.abi_base.specs.declared.rights.TheConstants.Rights.{FD_SEEK, FD_TELL}
use Rattle.abi_types.specs.declared.chan_kind.ChanKind.{ChanKind}
use Rattle.abi_types.specs.declared.call.Call.{Call}
use Rattle.abi_types.specs.declared.call.Call.TheVariants as call
use Rattle.abi_types.specs.declared.constants.Constants.{Constants}
use Rattle.abi_types.specs.declared.descriptor.Descriptor.{Descriptor}
use Rattle.abi_types.specs.declared.node.Node.{Node}
use Rattle.abi_types.specs.declared.open_kind.OpenKind.{OpenKind}
use Rattle.abi_types.specs.declared.open_kind.OpenKind.TheVariants.{File, Directory, End, Terminal, Process}
use Rattle.abi_types.specs.declared.reply.Answer.{Answer}
use Rattle.abi_types.specs.declared.reply.Answer.TheVariants as answer
use Rattle.abi_types.specs.declared.reply.Reply.{Reply}
use Rattle.abi_types.specs.declared.stream.Stream.{Stream}
use Rattle.abi_types.specs.declared.who.Who.{Who}
use Rattle.maps.specs.Maps.{insert_self}
use Rattle.tree_model.specs.Files.{is_beyond}
use Rattle.tree_model.specs.Opens.{one_of_node}
use Rattle.tree_model.specs.Releasing.{used-set}
use Rattle.channel_calls.specs.Calls.{end_outcome}
use Rattle.fd_calls.specs.Calls.{offset_fd, offset_outcome_of, offset_meaning}
use Rattle.fd_calls.specs.AtOffset.{IsAtOffset, open_after}
use Rattle.file_calls.specs.Done.{HasSameNodes, tree_after}
use Rattle.kernel_model.specs.Calls.{meaning_of, takes_memory}
use Rattle.kernel_model.specs.Families.ClockCalls.{real_time}
use Rattle.kernel_model.specs.Families.FileBytes.{overwritten, overwrites, written_count}
use Rattle.kernel_model.specs.Families.FileOffsets.{OffsetOutcome, with_offset, open_update, seek_to, sought, stays, write_from, write_place}
use Rattle.kernel_model.specs.Families.OpenMeaning.{at_descriptor}
use Rattle.kernel_model.specs.Outcome.{Outcome, replies}
use Rattle.kernel_model.specs.Release.{release}
use Rattle.kernel_model.specs.Reply.{refused, success}
use Rattle.kernel_model.specs.Rows.{base_row, either_row}
use Rattle.kernel_model.specs.State.{State, Table, Tree, tree_of, Update, put_all, put_one, set_node, set_names, set_open, set_term}
use Rattle.kernel_model.specs.Families.TreeUpdates.{node_update}
use Rattle.kernel_model.specs.Valid.{IsNearlyValid, IsValid}
use Rattle.kernel_model.specs.View.{whole}
use Rattle.kernel_model.proofs.FileMeanings.{IsOfTree}
use Rattle.kernel_model.proofs.OpenMeanings.{OpensWell}
use Rattle.readiness_laws.specs.Spots.{bare, never_waits}
use Rattle.kernel_model.proofs.StreamCalls.{read_opens_well, seek_opens_well, write_opens_well}
use Rattle.kernel_model.proofs.Tests.{none_is_no, same_some}
use Rattle.kernel_model.proofs.Valids.{IsSameBehind, release_valid, set_open_nearly_valid, set_term_nearly_valid, some_again}
use Rattle.kernel_parts.specs.Entries.{open_in}
use Rattle.kernel_model.specs.Done.{IsAnswered, IsDone}
use Rattle.kernel_core.specs.OffsetCalls.{offset_outcome}
use Rattle.kernel_parts.specs.StreamCalls.{IsStreamDone, stream_outcome, terms_after}
use Rattle.kernel_invariant.proofs.Channels.{end_is}
use Rattle.kernel_core.proofs.FileCalls.{tree_valid, with_tree}

-- ---- what the calls mean

-- the descriptor of which a call that seeks needs something
seek_fd : (n : ℕ) (reports : Bool) → (cond reports (either_row n FD_TELL FD_SEEK) (base_row n FD_SEEK)).fd ≡ n
seek_fd n true = refl
seek_fd n false = refl

pub offset_does : (constants : Constants) (S : State) (who : Who) (table : Table) (called : Call) (fd : ℕ) → offset_fd called ≡ Some fd
    → (meaning_of called).effect constants (whole S) who table ≡ offset_outcome constants S table fd called
offset_does constants S who table (call.FdRead n length) fd is = ap (λ k. offset_outcome constants S table k (call.FdRead n length)) (same_some n fd is)
offset_does constants S who table (call.FdSeek n offset whence) fd is =
    ap (λ k. offset_outcome constants S table k (call.FdSeek n offset whence)) (seek_fd n ((offset == 0) && (whence == 1)) ∙ same_some n fd is)
offset_does constants S who table (call.FdWrite n bytes) fd is = ap (λ k. offset_outcome constants S table k (call.FdWrite n bytes)) (same_some n fd is)
offset_does constants S who table other fd is = absurd (none_is_no fd is)

offset_well : (called : Call) (fd : ℕ) → offset_fd called ≡ Some fd → OpensWell (offset_meaning called)
offset_well (call.FdRead n length) fd is = read_opens_well length
offset_well (call.FdSeek n offset whence) fd is = seek_opens_well offset whence
offset_well (call.FdWrite n bytes) fd is = write_opens_well bytes
offset_well other fd is = absurd (none_is_no fd is)

-- the outcome on the open of a descriptor that is there
at_open : (constants : Constants) (S : State) (table : Table) (fd : ℕ) (called : Call) (d : Descriptor) (kind : Option OpenKind) → get table fd ≡ Some d
    → get S.opens d.id ≡ kind → offset_outcome constants S table fd called ≡ (offset_meaning called).effect (real_time constants S.clock) (whole S) d.id kind
at_open constants S table fd called d kind there is =
    ap (at_descriptor ((offset_meaning called).effect (real_time constants S.clock) (whole S)) (whole S)) there
    ∙ ap ((offset_meaning called).effect (real_time constants S.clock) (whole S) d.id) is

-- ---- a descriptor or an open that isn't there

unopened_is_badf : (called : Call) (fd now : ℕ) (S : State) (o : ℕ) → offset_fd called ≡ Some fd
    → (offset_meaning called).effect now (whole S) o None ≡ replies (refused Badf)
unopened_is_badf (call.FdRead n length) fd now S o is = refl
unopened_is_badf (call.FdSeek n offset whence) fd now S o is = refl
unopened_is_badf (call.FdWrite n bytes) fd now S o is = refl
unopened_is_badf other fd now S o is = absurd (none_is_no fd is)

-- the outcome by a descriptor whose open isn't there
lacking_comes : (constants : Constants) (S : State) (called : Call) (fd : ℕ) → offset_fd called ≡ Some fd → (o : Option Descriptor) → open_in S.opens o ≡ None
    → at_descriptor ((offset_meaning called).effect (real_time constants S.clock) (whole S)) (whole S) o ≡ replies (refused Badf)
lacking_comes constants S called fd is None none = refl
lacking_comes constants S called fd is (Some d) none =
    ap ((offset_meaning called).effect (real_time constants S.clock) (whole S) d.id) none ∙ unopened_is_badf called fd (real_time constants S.clock) S d.id is

pub absent_comes : (constants : Constants) (S : State) (table : Table) (fd : ℕ) (called : Call) → offset_fd called ≡ Some fd
    → open_in S.opens (get table fd) ≡ None → offset_outcome constants S table fd called ≡ replies (refused Badf)
absent_comes constants S table fd called is none = lacking_comes constants S called fd is (get table fd) none

-- ---- standard streams

stream_is : (called : Call) (fd now : ℕ) (S : State) (o which flags : ℕ) → offset_fd called ≡ Some fd
    → (offset_meaning called).effect now (whole S) o (Some (Terminal which flags)) ≡ stream_outcome called which (get S.terms which)
stream_is (call.FdRead n length) fd now S o which flags is = refl
stream_is (call.FdSeek n offset whence) fd now S o which flags is = refl
stream_is (call.FdWrite n bytes) fd now S o which flags is = refl
stream_is other fd now S o which flags is = absurd (none_is_no fd is)

-- so the call comes to that on the open of such a descriptor
pub stream_outcome_is : (constants : Constants) (S : State) (table : Table) (fd : ℕ) (called : Call) (d : Descriptor) (which flags : ℕ) → offset_fd called ≡ Some fd
    → get table fd ≡ Some d → get S.opens d.id ≡ Some (Terminal which flags) → offset_outcome constants S table fd called ≡ stream_outcome called which (get S.terms which)
stream_outcome_is constants S table fd called d which flags is named there =
    at_open constants S table fd called d (Some (Terminal which flags)) named there ∙ stream_is called fd (real_time constants S.clock) S d.id which flags is

-- the state with other streams
abbrev pub with_terms : State → FinMap nat_cmp Stream → State
with_terms S terms = record S { terms = terms }

stream_puts : (called : Call) (S : State) (which : ℕ) (stream : Option Stream)
    → put_all (stream_outcome called which stream).updates S ≡ with_terms S (terms_after (stream_outcome called which stream).updates S.terms)
stream_puts (call.FdRead n length) S which None = refl
stream_puts (call.FdRead n length) S which (Some stream) = refl
stream_puts (call.FdWrite n bytes) S which None = refl
stream_puts (call.FdWrite n bytes) S which (Some stream) = refl
stream_puts other S which stream = refl

-- a valid state with more written to a stream is valid
term_valid : (S : State) (which : ℕ) (stream : Stream) → IsValid S → IsValid (put_one (set_term which stream) S)
term_valid S which stream v = record { nearly = set_term_nearly_valid S which stream v.nearly; held = v.held; kept = v.kept; going = v.going }

stream_valid : (called : Call) (S : State) (which : ℕ) (stream : Option Stream) → IsValid S
    → IsValid (with_terms S (terms_after (stream_outcome called which stream).updates S.terms))
stream_valid (call.FdRead n length) S which None v = v
stream_valid (call.FdRead n length) S which (Some stream) v = term_valid S which _ v
stream_valid (call.FdWrite n bytes) S which None v = v
stream_valid (call.FdWrite n bytes) S which (Some stream) v = term_valid S which _ v
stream_valid other S which stream v = v

pub left_valid : (called : Call) (S : State) (which : ℕ) (terms : FinMap nat_cmp Stream) (r : Result Answer AllocError) → IsValid S
    → IsStreamDone (takes_memory called) (stream_outcome called which (get S.terms which)) S.terms terms r → IsValid (with_terms S terms)
left_valid called S which terms (Ok given) valid done =
    subst (λ (t : FinMap nat_cmp Stream). IsValid (with_terms S t)) (sym done.1) (stream_valid called S which (get S.terms which) valid)
left_valid called S which terms (Err e) valid done = subst (λ (t : FinMap nat_cmp Stream). IsValid (with_terms S t)) (sym done.2) valid

-- the state with other streams is that of the outcome, of which nothing is released
stream_left : (called : Call) (S : State) (which : ℕ) (terms : FinMap nat_cmp Stream) → IsValid (with_terms S terms)
    → terms ≡ terms_after (stream_outcome called which (get S.terms which)).updates S.terms
    → with_terms S terms ≡ release (put_all (stream_outcome called which (get S.terms which)).updates S)
stream_left called S which terms valid left =
    sym (release_valid (with_terms S terms) valid) ∙ ap release (ap (with_terms S) left ∙ sym (stream_puts called S which (get S.terms which)))

pub stream_done : (called : Call) (S : State) (which : ℕ) (terms : FinMap nat_cmp Stream) (r : Result Answer AllocError) → IsValid S
    → IsStreamDone (takes_memory called) (stream_outcome called which (get S.terms which)) S.terms terms r
    → IsDone (takes_memory called) (stream_outcome called which (get S.terms which)) S (with_terms S terms) r
stream_done called S which terms (Ok given) valid done =
    (done.0, stream_left called S which terms (left_valid called S which terms (Ok given) valid done) done.1)
stream_done called S which terms (Err e) valid done = (done.0, done.1, ap (with_terms S) done.2)

-- ---- ends of channels

pub end_outcome_is : (constants : Constants) (S : State) (table : Table) (fd : ℕ) (called : Call) (d : Descriptor) (reads writes : Option ℕ) (flags : ℕ) (form : ChanKind)
    → offset_fd called ≡ Some fd → get table fd ≡ Some d → get S.opens d.id ≡ Some (End reads writes flags form)
    → offset_outcome constants S table fd called ≡ end_outcome S.chans (End reads writes flags form) called
end_outcome_is constants S table fd called d reads writes flags form is named there =
    at_open constants S table fd called d (Some (End reads writes flags form)) named there ∙ end_is called fd (real_time constants S.clock) S d.id reads writes flags form is

-- ---- opens that aren't of standard streams

-- such an open, which is no end of channels either
abbrev pub IsNoStream : OpenKind → Type 0
IsNoStream kind = ((which flags : ℕ) → kind ≢ Terminal which flags) × ((reads writes : Option ℕ) (flags : ℕ) (form : ChanKind) → kind ≢ End reads writes flags form)

offset_is : (called : Call) (fd now : ℕ) (S : State) (o : ℕ) (kind : OpenKind) → offset_fd called ≡ Some fd → IsNoStream kind
    → (offset_meaning called).effect now (whole S) o (Some kind) ≡ with_offset o (offset_outcome_of now (tree_of S) called kind)
offset_is (call.FdRead n length) fd now S o (File node offset flags) is unlike = refl
offset_is (call.FdRead n length) fd now S o (Directory node flags) is unlike = refl
offset_is (call.FdRead n length) fd now S o (End reads writes flags form) is unlike = absurd (unlike.1 reads writes flags form refl)
offset_is (call.FdRead n length) fd now S o (Terminal which flags) is unlike = absurd (unlike.0 which flags refl)
offset_is (call.FdRead n length) fd now S o (Process p object) is unlike = refl
offset_is (call.FdSeek n offset whence) fd now S o kind is unlike = refl
offset_is (call.FdWrite n bytes) fd now S o (File node offset flags) is unlike = refl
offset_is (call.FdWrite n bytes) fd now S o (Directory node flags) is unlike = refl
offset_is (call.FdWrite n bytes) fd now S o (End reads writes flags form) is unlike = absurd (unlike.1 reads writes flags form refl)
offset_is (call.FdWrite n bytes) fd now S o (Terminal which flags) is unlike = absurd (unlike.0 which flags refl)
offset_is (call.FdWrite n bytes) fd now S o (Process p object) is unlike = refl
offset_is other fd now S o kind is unlike = absurd (none_is_no fd is)

-- so the call comes to that on the open of such a descriptor
pub offset_outcome_is : (constants : Constants) (S : State) (table : Table) (fd : ℕ) (called : Call) (d : Descriptor) (kind : OpenKind) → offset_fd called ≡ Some fd
    → get table fd ≡ Some d → get S.opens d.id ≡ Some kind → IsNoStream kind
    → offset_outcome constants S table fd called ≡ with_offset d.id (offset_outcome_of (real_time constants S.clock) (tree_of S) called kind)
offset_outcome_is constants S table fd called d kind is named there unlike =
    at_open constants S table fd called d (Some kind) named there ∙ offset_is called fd (real_time constants S.clock) S d.id kind is unlike

-- it sets the file tree alone beside the open, and the open stays one of the same node
record Keeps (kind : OpenKind) (m : OffsetOutcome) : Type 0 where
  tree : AllByRecursion IsOfTree m.outcome.updates
  behind : IsSameBehind kind (open_after kind m.moved)
  node : (n : ℕ) → one_of_node n (open_after kind m.moved) ≡ one_of_node n kind
  looked : (bare (Some (open_after kind m.moved)) ≡ bare (Some kind)) × (never_waits (Some (open_after kind m.moved)) ≡ never_waits (Some kind))

stays_keeps : (kind : OpenKind) (reply : Reply) → Keeps kind (stays reply)
stays_keeps kind reply = record { tree = tt; behind = record { base = refl; inheriting = refl; behind = λ S h. h; alike = λ k. (refl, refl, refl) }; node = λ n. refl; looked = (refl, refl) }

moved_keeps : (node old new flags : ℕ) (o : Outcome) → AllByRecursion IsOfTree o.updates
    → Keeps (File node old flags) (record { outcome = o; moved = Some (File node new flags) })
moved_keeps node old new flags o tree =
    record { tree = tree; behind = record { base = refl; inheriting = refl; behind = λ S h. h; alike = λ k. (refl, refl, refl) }; node = λ n. refl; looked = (refl, refl) }

node_tree : (n : ℕ) (o : Option Node) → AllByRecursion IsOfTree (node_update n o)
node_tree n None = tt
node_tree n (Some node) = (tt, tt)

either_keeps : (b : Bool) (kind : OpenKind) (m n : OffsetOutcome) → Keeps kind m → Keeps kind n → Keeps kind (cond b m n)
either_keeps true kind m n first second = first
either_keeps false kind m n first second = second

write_keeps : (t : Tree) (node offset flags now at : ℕ) (bytes : List ℕ) → Keeps (File node offset flags) (write_from t node flags now at bytes)
write_keeps t node offset flags now at [] = stays_keeps _ _
write_keeps t node offset flags now at (b ∷ bytes) =
    either_keeps (is_beyond at (b ∷ bytes)) (File node offset flags) (stays (refused Fbig))
    (record { outcome = overwrites t node now at (b ∷ bytes); moved = Some (File node (at + written_count at (b ∷ bytes)) flags) })
    (stays_keeps _ _)
    (moved_keeps node offset (at + written_count at (b ∷ bytes)) flags (overwrites t node now at (b ∷ bytes))
    (node_tree node (get (overwritten t node now at (b ∷ bytes)).nodes node)))

seek_keeps : (node offset flags : ℕ) (place : Option ℕ) → Keeps (File node offset flags) (seek_to node flags place)
seek_keeps node offset flags None = stays_keeps _ _
seek_keeps node offset flags (Some place) = moved_keeps node offset place flags (replies (success place 0)) tt

offset_keeps : (now : ℕ) (t : Tree) (called : Call) (kind : OpenKind) → Keeps kind (offset_outcome_of now t called kind)
offset_keeps now t (call.FdRead n length) (File node offset flags) = moved_keeps node offset _ flags _ tt
offset_keeps now t (call.FdRead n length) (Directory node flags) = stays_keeps _ _
offset_keeps now t (call.FdRead n length) (End reads writes flags form) = stays_keeps _ _
offset_keeps now t (call.FdRead n length) (Terminal which flags) = stays_keeps _ _
offset_keeps now t (call.FdRead n length) (Process p object) = stays_keeps _ _
offset_keeps now t (call.FdSeek n offset whence) (File node at flags) = seek_keeps node at flags (sought t node at offset whence)
offset_keeps now t (call.FdSeek n offset whence) (Directory node flags) = stays_keeps _ _
offset_keeps now t (call.FdSeek n offset whence) (End reads writes flags form) = stays_keeps _ _
offset_keeps now t (call.FdSeek n offset whence) (Terminal which flags) = stays_keeps _ _
offset_keeps now t (call.FdSeek n offset whence) (Process p object) = stays_keeps _ _
offset_keeps now t (call.FdWrite n bytes) (File node offset flags) = write_keeps t node offset flags now (write_place t node offset flags) bytes
offset_keeps now t (call.FdWrite n bytes) (Directory node flags) = stays_keeps _ _
offset_keeps now t (call.FdWrite n bytes) (End reads writes flags form) = stays_keeps _ _
offset_keeps now t (call.FdWrite n bytes) (Terminal which flags) = stays_keeps _ _
offset_keeps now t (call.FdWrite n bytes) (Process p object) = stays_keeps _ _
offset_keeps now t other kind = stays_keeps _ _

-- the state with another file tree and another value of an open
abbrev pub with_open : State → Tree → ℕ → OpenKind → State
with_open S t o kind = record S { opens = insert S.opens o kind; nodes = t.nodes; names = t.names }

-- updates of the tree, and then of an open
put_moves : (us : List Update) (S : State) (o : ℕ) (moved : Option OpenKind) → AllByRecursion IsOfTree us
    → put_all (us ++ open_update o moved) S ≡ put_all (open_update o moved) (with_tree S (tree_after us (tree_of S)))
put_moves [] S o moved h = refl
put_moves (set_node n node ∷ us) S o moved h = put_moves us (put_one (set_node n node) S) o moved h.1
put_moves (set_names n names ∷ us) S o moved h = put_moves us (put_one (set_names n names) S) o moved h.1
put_moves (u ∷ us) S o moved h = absurd h.0

put_open : (S : State) (t : Tree) (o : ℕ) (kind : OpenKind) (moved : Option OpenKind) → get S.opens o ≡ Some kind
    → put_all (open_update o moved) (with_tree S t) ≡ with_open S t o (open_after kind moved)
put_open S t o kind None there = λ i. record S { opens = sym (insert_self S.opens o kind there) i; nodes = t.nodes; names = t.names }
put_open S t o kind (Some new) there = refl

module _ (called : Call) (fd now : ℕ) (is : offset_fd called ≡ Some fd) (S : State) (o : ℕ) (kind new : OpenKind) (there : get S.opens o ≡ Some kind)
    (unlike : IsNoStream kind) (valid : IsValid S) (t : Tree) (reply : Reply)
    (done : IsAtOffset (offset_outcome_of now (tree_of S) called kind) (tree_of S) t kind new reply) (same : HasSameNodes (tree_of S) t) where
  abbrev moves : OffsetOutcome
  moves = offset_outcome_of now (tree_of S) called kind

  keeps : Keeps kind moves
  keeps = offset_keeps now (tree_of S) called kind

  made : put_all ((offset_meaning called).effect now (whole S) o (Some kind)).updates S ≡ with_open S t o new
  made =
      ap (λ (x : Outcome). put_all x.updates S) (offset_is called fd now S o kind is unlike)
      ∙ put_moves moves.outcome.updates S o moves.moved keeps.tree
      ∙ put_open S (tree_after moves.outcome.updates (tree_of S)) o kind moves.moved there
      ∙ (λ i. with_open S (sym done.0.1 i) o (sym done.1 i))

  -- the state with the open alone
  set_valid : IsValid (put_one (set_open o new) S)
  set_valid = record {
    nearly = set_open_nearly_valid S o kind new there (subst (IsSameBehind kind) (sym done.1) keeps.behind) valid.nearly;
    held = λ q some. valid.held q (sym (some_again S.opens o kind new q there) ∙ some);
    going = valid.going;
    kept = λ n some.
        used-set S.opens o kind new (tree_of S) n there
        (subst (λ (k : OpenKind). (m : ℕ) → one_of_node m k ≡ one_of_node m kind) (sym done.1) keeps.node)
        ∙ valid.kept n some;
  }

  -- it leaves a valid state
  pub offset_valid : IsValid (with_open S t o new)
  offset_valid =
      tree_valid (put_one (set_open o new) S) t same
      (subst IsNearlyValid made ((offset_well called fd is).valid now S o (Some kind) there valid.nearly))
      set_valid

  -- and nothing is released after it
  pub offset_done : IsAnswered (with_offset o moves) S (with_open S t o new) (answer.Reply reply)
  offset_done = (
    done.0.0,
    sym (release_valid (with_open S t o new) offset_valid) ∙ ap release (sym made)
        ∙ ap (λ (x : Outcome). release (put_all x.updates S)) (offset_is called fd now S o kind is unlike),
  )

-- the open that is left is of the same node
pub offset_same : (now : ℕ) (t u : Tree) (called : Call) (kind new : OpenKind) (reply : Reply) → IsAtOffset (offset_outcome_of now t called kind) t u kind new reply
    → (n : ℕ) → one_of_node n new ≡ one_of_node n kind
offset_same now t u called kind new reply done n = ap (one_of_node n) done.1 ∙ (offset_keeps now t called kind).node n

-- and what waiting threads look at of it is the same
pub offset_looked : (now : ℕ) (t u : Tree) (called : Call) (kind new : OpenKind) (reply : Reply) → IsAtOffset (offset_outcome_of now t called kind) t u kind new reply
    → (bare (Some new) ≡ bare (Some kind)) × (never_waits (Some new) ≡ never_waits (Some kind))
offset_looked now t u called kind new reply done =
    let keeps = (offset_keeps now t called kind).looked in
    (ap (λ k. bare (Some k)) done.1 ∙ keeps.0, ap (λ k. never_waits (Some k)) done.1 ∙ keeps.1)
