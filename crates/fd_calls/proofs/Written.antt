-- What a write at an open's offset leaves.
--     written_moves      the bytes are written, and the offset is behind them
use Rattle.std.proofs.Common.{◌≡◌, ◌<◌, ℕ, ◌+◌, ◌==◌, true, false, cond, List, [], ◌∷◌, length, Some, sym, ap, subst}
use Rattle.abi_base.specs.declared.errno.Errno.TheVariants.{Fbig}
use Rattle.abi_types.specs.declared.open_kind.OpenKind.TheVariants.{File}
use Rattle.abi_types.specs.declared.reply.Reply.{Reply}
use Rattle.tree_model.specs.Changes.{is_file}
use Rattle.tree_model.specs.Tree.{Tree}
use Rattle.tree_model.specs.declared.limits.TheConstants.{MOST_FILE_BYTES}
use Rattle.kernel_model.specs.Families.FileBytes.{overwritten, overwrites, written_count}
use Rattle.kernel_model.specs.Families.FileOffsets.{OffsetOutcome, stays, write_from, write_on, write_place}
use Rattle.kernel_model.specs.Reply.{refused, success}
use Rattle.kernel_model.proofs.Tests.{not_true}
use Rattle.file_calls.proofs.Reworked.{below_limit, overwrites_is}
use Rattle.fd_calls.specs.AtOffset.{IsAtOffset}

-- the bytes are written there, and the offset is behind them
abbrev behind : Tree → ℕ → ℕ → ℕ → ℕ → List ℕ → OffsetOutcome
behind t node flags now at bytes =
    record { outcome = overwrites t node now at bytes; moved = Some (File node (at + written_count at bytes) flags) }

has_written : (t : Tree) (node flags now at : ℕ) (bytes : List ℕ) → (length bytes == 0) ≡ false → at < MOST_FILE_BYTES
    → write_from t node flags now at bytes ≡ behind t node flags now at bytes
has_written t node flags now at [] some below = absurd (not_true (sym some))
has_written t node flags now at (b ∷ bytes) some below =
    ap (λ c. cond c (stays (refused Fbig)) (behind t node flags now at (b ∷ bytes))) (below_limit at b bytes below)

pub written_moves : (t u : Tree) (node offset flags now at : ℕ) (bytes : List ℕ) (count : ℕ) (reply : Reply)
    → at ≡ write_place t node offset flags → (length bytes == 0) ≡ false → at < MOST_FILE_BYTES → is_file t node ≡ true
    → u ≡ overwritten t node now at bytes → count ≡ written_count at bytes → reply ≡ success count 0
    → IsAtOffset (write_on t node offset flags now bytes) t u (File node offset flags) (File node (at + count) flags) reply
written_moves t u node offset flags now at bytes count reply place some below file is counted answered =
    subst (λ k. IsAtOffset (write_from t node flags now k bytes) t u (File node offset flags) (File node (at + count) flags) reply) place
    (subst (λ (m : OffsetOutcome). IsAtOffset m t u (File node offset flags) (File node (at + count) flags) reply)
    (sym (has_written t node flags now at bytes some below))
    (overwrites_is t u node now at bytes count reply file is counted answered, ap (λ k. File node (at + k) flags) counted))
