-- The errors of the calls that read and write, and of fd_seek, are as listed.
use Rattle.std.proofs.Common.{◌≡◌, ◌≢◌, ℕ, ◌+◌, ◌-◌, ◌<◌, ◌≤◌, ◌^◌, ◌==◌, ◌&&◌, Bool, true, false, cond, not, List, [], ◌∷◌, length, Option, Some, None, inl, inr, refl, sym, ap, ◌∙◌, arith}
use Rattle.std.proofs.lemmas.Bool.Decides.{Decides-like, eqb_tells, leb_tells}
use Rattle.std.specs.Bool.{Decides}
use Rattle.std.specs.FinMap.{get}
use Rattle.std.specs.Int.RustNames.{bit_and}
use Rattle.std.specs.Prelude.{nat_le, nat_lt}
use Rattle.abi_base.specs.Rights.{Has}
use Rattle.abi_base.specs.declared.errno.Errno.TheVariants.{Badf, Fbig, Inval}
use Rattle.abi_base.specs.declared.rights.TheConstants.Rights.{FD_SEEK, FD_TELL}
use Rattle.abi_types.specs.declared.call.Call.TheVariants.{FdPread, FdPwrite, FdRead, FdSeek, FdWrite}
use Rattle.abi_types.specs.declared.open_kind.OpenKind.{OpenKind}
use Rattle.abi_types.specs.declared.open_kind.OpenKind.TheVariants.{File, Directory, End, Terminal, Process}
use Rattle.tree_model.specs.Changes.{bytes_of}
use Rattle.tree_model.specs.Files.{is_beyond}
use Rattle.kernel_model.specs.Families.ClockCalls.{real_time}
use Rattle.kernel_model.specs.Families.FileBytes.{overwrites, read_at, write_at, written_count}
use Rattle.kernel_model.specs.Families.FileOffsets.{OffsetOutcome, as_offset, offset_from, seek_to, stays, write_from}
use Rattle.kernel_model.specs.Families.OpenMeaning.{at_descriptor}
use Rattle.kernel_model.specs.Families.StreamCalls.{read_open, read_term, seek_open, seek_row, write_open, write_term}
use Rattle.kernel_model.specs.Outcome.{Outcome, replies}
use Rattle.kernel_model.specs.Reply.{refused}
use Rattle.kernel_model.specs.Rows.{base_row, either_row}
use Rattle.kernel_model.specs.State.{State, Table, Tree, tree_of}
use Rattle.kernel_model.specs.Step.{tick}
use Rattle.kernel_model.specs.View.{whole}
use Rattle.kernel_model.proofs.Tests.{not_true}
use Rattle.file_errors.specs.OffsetErrors.{IsNoEnd, OffsetErrorsAreListed, fd_read_rows, fd_write_rows, from_place, pread_rows, pwrite_rows, seek_rows}
use Rattle.file_errors.specs.Tables.{Answers, Rows, refuses, row, succeeds}
use Rattle.file_errors.proofs.Flags.{flag_decides}
use Rattle.file_errors.proofs.Rows.{Whatever, by_none, by_row, by_test, listed_at, listed_on, lt_tells}

-- ---- reading and writing

pread_listed : (n at : ℕ) (t : Tree) (kind : Option OpenKind) → Answers (pread_rows kind) (read_at n at t kind).answer
pread_listed n at t None = refl
pread_listed n at t (Some (File node offset flags)) = refl
pread_listed n at t (Some (Directory node flags)) = refl
pread_listed n at t (Some (End reads writes flags form)) = refl
pread_listed n at t (Some (Terminal which flags)) = refl
pread_listed n at t (Some (Process p object)) = refl

-- no file has room for some bytes at this offset
beyond_decides : (at b : ℕ) (bytes : List ℕ) → Decides (is_beyond at (b ∷ bytes)) (((b ∷ bytes) ≢ []) × (67108864 ≤ at))
beyond_decides at b bytes =
    elim (leb_tells (length (b ∷ bytes)) 0) [
      | inl none ↦ absurd (omega (arith, none.1))
      | inr some ↦
          let counts : is_beyond at (b ∷ bytes) ≡ nat_le 67108864 at = ap (λ c. not c && nat_le 67108864 at) some.0 in
          elim (leb_tells 67108864 at) [
            | inl high ↦ (λ e. ((λ same. cc), high.1), λ h. counts ∙ high.0)
            | inr low ↦ (λ e. absurd (not_true (sym low.0 ∙ sym counts ∙ e)), λ h. absurd (omega (arith, low.1, h.1)))
          ]
    ]

pwrite_listed : (bytes : List ℕ) (at now : ℕ) (t : Tree) (kind : Option OpenKind) → Answers (pwrite_rows bytes at kind) (write_at bytes at now t kind).answer
pwrite_listed bytes at now t None = refl
pwrite_listed [] at now t (Some (File node offset flags)) = inr (λ h. h.0 refl, refl)
pwrite_listed (b ∷ bytes) at now t (Some (File node offset flags)) =
    by_row (λ (o : Outcome). o.answer) (is_beyond at (b ∷ bytes)) (replies (refused Fbig)) (overwrites t node now at (b ∷ bytes))
    (((b ∷ bytes) ≢ []) × (67108864 ≤ at)) Fbig succeeds (beyond_decides at b bytes) refl (λ low. refl)
pwrite_listed bytes at now t (Some (Directory node flags)) = refl
pwrite_listed bytes at now t (Some (End reads writes flags form)) = refl
pwrite_listed bytes at now t (Some (Terminal which flags)) = refl
pwrite_listed bytes at now t (Some (Process p object)) = refl

-- bytes for a file, at its open's offset or at its end
module _ (t : Tree) (node offset flags now b : ℕ) (bytes : List ℕ) where
  abbrev end_row : Rows
  end_row = row (((b ∷ bytes) ≢ []) × Has flags 0 × (67108864 ≤ length (bytes_of t node))) Fbig succeeds

  abbrev file_rows : Rows
  file_rows = row (((b ∷ bytes) ≢ []) × (¬ Has flags 0) × (67108864 ≤ offset)) Fbig end_row

  abbrev written_at : ℕ → OffsetOutcome
  written_at at = record { outcome = overwrites t node now at (b ∷ bytes); moved = Some (File node (at + written_count at (b ∷ bytes)) flags) }

  file_written : (plain : Bool) → Decides (not plain) (Has flags 0)
      → Answers file_rows (write_from t node flags now (cond plain offset (length (bytes_of t node))) (b ∷ bytes)).outcome.answer
  file_written true appends =
      let unset : ¬ Has flags 0 = λ h. not_true (appends.1 h) in
      by_row (λ (m : OffsetOutcome). m.outcome.answer) (is_beyond offset (b ∷ bytes)) (stays (refused Fbig)) (written_at offset)
      (((b ∷ bytes) ≢ []) × (¬ Has flags 0) × (67108864 ≤ offset)) Fbig end_row
      (Decides-like (is_beyond offset (b ∷ bytes)) (λ h. (h.0, unset, h.1)) (λ h. (h.0, h.2)) (beyond_decides offset b bytes)) refl
      (λ low. inr (λ h. unset h.1, refl))
  file_written false appends =
      let set : Has flags 0 = appends.0 refl in
      let at : ℕ = length (bytes_of t node) in
      inr (
        λ h. h.1 set,
        by_row (λ (m : OffsetOutcome). m.outcome.answer) (is_beyond at (b ∷ bytes)) (stays (refused Fbig)) (written_at at)
            (((b ∷ bytes) ≢ []) × Has flags 0 × (67108864 ≤ at)) Fbig succeeds
            (Decides-like (is_beyond at (b ∷ bytes)) (λ h. (h.0, set, h.1)) (λ h. (h.0, h.2)) (beyond_decides at b bytes)) refl (λ low. refl),
      )

write_listed : (bytes : List ℕ) (now : ℕ) (S : State) (o : ℕ) (kind : Option OpenKind) → IsNoEnd kind
    → Answers (fd_write_rows bytes S kind) (write_open now (whole (tick S)) bytes o kind).answer
write_listed bytes now S o None is = refl
write_listed [] now S o (Some (File node offset flags)) is = inr (λ h. h.0 refl, inr (λ h. h.0 refl, refl))
write_listed (b ∷ bytes) now S o (Some (File node offset flags)) is =
    file_written (tree_of S) node offset flags now b bytes (bit_and flags 1 == 0) (flag_decides flags 0)
write_listed bytes now S o (Some (Directory node flags)) is = refl
write_listed bytes now S o (Some (End reads writes flags form)) is = absurd is
write_listed bytes now S o (Some (Terminal which flags)) is =
    by_none (λ s. (write_term bytes which s).answer) (get S.terms which) Badf succeeds refl (λ stream there. refl)
write_listed bytes now S o (Some (Process p object)) is = refl

read_listed : (n : ℕ) (S : State) (o : ℕ) (kind : Option OpenKind) → IsNoEnd kind → Answers (fd_read_rows S kind) (read_open (whole (tick S)) n o kind).answer
read_listed n S o None is = refl
read_listed n S o (Some (File node offset flags)) is = refl
read_listed n S o (Some (Directory node flags)) is = refl
read_listed n S o (Some (End reads writes flags form)) is = absurd is
read_listed n S o (Some (Terminal which flags)) is =
    by_none (λ s. (read_term n which s).answer) (get S.terms which) Badf succeeds refl (λ stream there. refl)
read_listed n S o (Some (Process p object)) is = refl

-- ---- fd_seek

-- to a place that is an offset, or is none
module _ (node flags : ℕ) where
  moves : (rows : Rows) (n : ℕ) → ((n < 2 ^ 63) → Answers rows (seek_to node flags (Some n)).outcome.answer)
      → ((2 ^ 63 ≤ n) → Answers rows (seek_to node flags None).outcome.answer) → Answers rows (seek_to node flags (as_offset n)).outcome.answer
  unfolding as_offset
  moves rows n low high = by_test (λ p. Answers rows (seek_to node flags p).outcome.answer) (nat_lt n (2 ^ 63)) (Some n) None (lt_tells n (2 ^ 63)) low high

  place_sought : (place bits : ℕ) → Answers (from_place place bits) (seek_to node flags (offset_from place bits)).outcome.answer
  unfolding offset_from
  place_sought place bits =
      by_test (λ p. Answers (from_place place bits) (seek_to node flags p).outcome.answer) (nat_lt bits (2 ^ 63)) (as_offset (place + bits))
      (cond (nat_lt (place + bits) (2 ^ 64)) None (as_offset (place + bits - 2 ^ 64))) (lt_tells bits (2 ^ 63))
      (λ positive.
      moves (from_place place bits) (place + bits)
      (λ low. inr (λ h. omega (arith, h.0, positive), inr (λ far. elim far [ inl h ↦ omega (arith, h.1, low) | inr h ↦ omega (arith, h.0, positive) ], refl)))
      (λ high. inr (λ h. omega (arith, h.0, positive), inl (inl (positive, high), refl))))
      (λ negative.
      by_test (λ p. Answers (from_place place bits) (seek_to node flags p).outcome.answer) (nat_lt (place + bits) (2 ^ 64)) None
      (as_offset (place + bits - 2 ^ 64)) (lt_tells (place + bits) (2 ^ 64))
      (λ below. inl ((negative, below), refl))
      (λ above.
      moves (from_place place bits) (place + bits - 2 ^ 64)
      (λ low. inr (λ h. omega (arith, h.1, above), inr (λ far. elim far [ inl h ↦ omega (arith, h.0, negative) | inr h ↦ omega (arith, h.1, low) ], refl)))
      (λ high. inr (λ h. omega (arith, h.1, above), inl (inr (negative, omega (arith, high, above)), refl)))))

-- only a file is sought in
seek_listed : (S : State) (bits whence o : ℕ) (rows : ℕ → ℕ → Rows)
    → ((node offset flags : ℕ) → Answers (rows node offset) (seek_open (whole (tick S)) bits whence o (Some (File node offset flags))).answer)
    → (kind : Option OpenKind) → Answers (seek_rows rows kind) (seek_open (whole (tick S)) bits whence o kind).answer
seek_listed S bits whence o rows of_file None = refl
seek_listed S bits whence o rows of_file (Some (File node offset flags)) = of_file node offset flags
seek_listed S bits whence o rows of_file (Some (Directory node flags)) = refl
seek_listed S bits whence o rows of_file (Some (End reads writes flags form)) = refl
seek_listed S bits whence o rows of_file (Some (Terminal which flags)) = refl
seek_listed S bits whence o rows of_file (Some (Process p object)) = refl

nowhere : (t : Tree) (node offset flags bits whence : ℕ) → whence ≢ 1 → whence ≢ 2 → whence ≢ 3
    → Answers (refuses Inval)
    (seek_to node flags (cond (whence == 1) (offset_from offset bits)
    (cond (whence == 2) (offset_from (length (bytes_of t node)) bits) (cond (whence == 3) (as_offset bits) None)))).outcome.answer
nowhere t node offset flags bits whence one two three =
    let P : Option ℕ → Type 0 = λ p. Answers (refuses Inval) (seek_to node flags p).outcome.answer in
    by_test P (whence == 1) _ _ (eqb_tells whence 1) (λ same. absurd (one same))
    (λ _. by_test P (whence == 2) _ _ (eqb_tells whence 2) (λ same. absurd (two same))
    (λ _. by_test P (whence == 3) _ _ (eqb_tells whence 3) (λ same. absurd (three same)) (λ _. refl)))

-- the descriptor that a row names is the call's
pub row_of : (b : Bool) (fd : ℕ) → (cond b (either_row fd FD_TELL FD_SEEK) (base_row fd FD_SEEK)).fd ≡ fd
row_of true fd = refl
row_of false fd = refl

-- what the call does by the descriptor
seek_does : (S : State) (table : Table) (fd bits whence : ℕ)
    → at_descriptor (λ o kind. seek_open (whole (tick S)) bits whence o kind) (whole (tick S)) (get table (seek_row fd bits whence).fd)
    ≡ at_descriptor (λ o kind. seek_open (whole (tick S)) bits whence o kind) (whole (tick S)) (get table fd)
seek_does S table fd bits whence =
    ap (λ k. at_descriptor (λ o kind. seek_open (whole (tick S)) bits whence o kind) (whole (tick S)) (get table k)) (row_of ((bits == 0) && (whence == 1)) fd)

-- ---- the law

pub offset_errors_are_listed : OffsetErrorsAreListed
offset_errors_are_listed = record {
  fd_pread = λ fd length offset.
      listed_on Whatever (FdPread fd length offset) fd (λ S who table. pread_rows)
      (λ constants S who table. read_at length offset (tree_of S)) (λ constants S who table. refl)
      (λ constants S who table kind is. pread_listed length offset (tree_of S) kind);
  fd_pwrite = λ fd bytes offset.
      listed_on Whatever (FdPwrite fd bytes offset) fd (λ S who table. pwrite_rows bytes offset)
      (λ constants S who table. write_at bytes offset (real_time constants (tick S).clock) (tree_of S)) (λ constants S who table. refl)
      (λ constants S who table kind is. pwrite_listed bytes offset (real_time constants (tick S).clock) (tree_of S) kind);
  from_offset = λ fd bits.
      listed_at Whatever (FdSeek fd bits 1) fd (λ S who table. seek_rows (λ node offset. from_place offset bits))
      (λ constants S who table o kind. seek_open (whole (tick S)) bits 1 o kind) (λ constants S who table. seek_does S table fd bits 1)
      (λ constants S who table o kind is.
      seek_listed S bits 1 o (λ node offset. from_place offset bits) (λ node offset flags. place_sought node flags offset bits) kind);
  from_end = λ fd bits.
      listed_at Whatever (FdSeek fd bits 2) fd (λ S who table. seek_rows (λ node offset. from_place (length (bytes_of (tree_of S) node)) bits))
      (λ constants S who table o kind. seek_open (whole (tick S)) bits 2 o kind) (λ constants S who table. seek_does S table fd bits 2)
      (λ constants S who table o kind is.
      seek_listed S bits 2 o (λ node offset. from_place (length (bytes_of (tree_of S) node)) bits)
      (λ node offset flags. place_sought node flags (length (bytes_of (tree_of S) node)) bits) kind);
  to_offset = λ fd bits.
      listed_at Whatever (FdSeek fd bits 3) fd (λ S who table. seek_rows (λ node offset. row (2 ^ 63 ≤ bits) Inval succeeds))
      (λ constants S who table o kind. seek_open (whole (tick S)) bits 3 o kind) (λ constants S who table. seek_does S table fd bits 3)
      (λ constants S who table o kind is.
      seek_listed S bits 3 o (λ node offset. row (2 ^ 63 ≤ bits) Inval succeeds)
      (λ node offset flags.
      moves node flags (row (2 ^ 63 ≤ bits) Inval succeeds) bits (λ low. inr (λ h. omega (arith, h, low), refl)) (λ high. inl (high, refl))) kind);
  from_nowhere = λ fd bits whence one two three.
      listed_at Whatever (FdSeek fd bits whence) fd (λ S who table. seek_rows (λ node offset. refuses Inval))
      (λ constants S who table o kind. seek_open (whole (tick S)) bits whence o kind) (λ constants S who table. seek_does S table fd bits whence)
      (λ constants S who table o kind is.
      seek_listed S bits whence o (λ node offset. refuses Inval)
      (λ node offset flags. nowhere (tree_of S) node offset flags bits whence one two three) kind);
  fd_read = λ fd length.
      listed_at IsNoEnd (FdRead fd length) fd (λ S who table. fd_read_rows S)
      (λ constants S who table o kind. read_open (whole (tick S)) length o kind) (λ constants S who table. refl)
      (λ constants S who table o kind is. read_listed length S o kind is);
  fd_write = λ fd bytes.
      listed_at IsNoEnd (FdWrite fd bytes) fd (λ S who table. fd_write_rows bytes S)
      (λ constants S who table o kind. write_open (real_time constants (tick S).clock) (whole (tick S)) bytes o kind) (λ constants S who table. refl)
      (λ constants S who table o kind is. write_listed bytes (real_time constants (tick S).clock) S o kind is);
}
