-- Reports can be read back: their lines and what stands below them can be kept apart.
use Rattle.std.proofs.Common.{◌≡◌, ◌≢◌, ℕ, Bool, false, ◌+◌, ◌^◌, ◌<◌, ◌==◌, List, [], ◌∷◌, ◌++◌, length, take, drop, codes, refl, sym, ap, subst, ◌∙◌, append_assoc, arith}
use Rattle.std.proofs.lemmas.Bool.Decides.{nat_tests}
use Rattle.std.proofs.lemmas.Fmt.{decimal_is_IsNumeral, decimal_injective}
use Rattle.std.proofs.lemmas.List.{append_cancel_left}
use Rattle.std.proofs.Math.Seq.{take-append_seam, drop-append-add}
use Rattle.std.specs.Char.{digit_value}
use Rattle.std.specs.Fmt.{decimal}
use Rattle.std.specs.List.{before_first, position_or_len}
use Rattle.std.specs.Str.Parse.{AllDigits}
use Rattle.run_types.specs.declared.history.Entry.{Entry}
use Rattle.kernel_model.specs.State.{State, tree_of, written_to}
use Rattle.run_report.specs.Denials.{denials_text}
use Rattle.run_report.specs.Report.{ending, stream_line, stream_text, end_text, tree_text, asked_history, report_of}
use Rattle.run_report.specs.ReportLaws.{ReportShowsStreams, StdoutIsCutOut}

-- no line feed is in the text
abbrev IsOneLine : List ℕ → Type 0
IsOneLine [] = Unit {0}
IsOneLine (b ∷ bs) = (b ≢ 10) × IsOneLine bs

is_no_feed : (b : ℕ) → (b == 10) ≡ false → b ≢ 10
is_no_feed b other e = grind (arith, nat_tests)

is_no_feed_test : (b : ℕ) → b ≢ 10 → (b == 10) ≡ false
is_no_feed_test b other = grind (arith, nat_tests)

IsOneLine-append : (a b : List ℕ) → IsOneLine a → IsOneLine b → IsOneLine (a ++ b)
IsOneLine-append [] b h k = k
IsOneLine-append (x ∷ a) b h k = (h.0, IsOneLine-append a b h.1 k)

IsOneLine-digits : (ds : List ℕ) → AllDigits 10 ds → IsOneLine ds
IsOneLine-digits [] h = tt
IsOneLine-digits (d ∷ ds) h = ((λ e. let far : 36 < 10 = subst (λ n. digit_value n < 10) e h.0 in omega arith), IsOneLine-digits ds h.1)

-- a first line, and what stands after it
line_apart : (a b x y : List ℕ) → IsOneLine a → IsOneLine b → a ++ (10 ∷ x) ≡ b ++ (10 ∷ y) → (a ≡ b) × (x ≡ y)
line_apart [] [] x y h k e = (refl, cc)
line_apart [] (c ∷ b) x y h k e = absurd (k.0 (cc))
line_apart (c ∷ a) [] x y h k e = absurd (h.0 (cc))
line_apart (c ∷ a) (d ∷ b) x y h k e =
    let rest : a ++ (10 ∷ x) ≡ b ++ (10 ∷ y) = cc in
    let first : c ≡ d = cc in
    let reported = line_apart a b x y h.1 k.1 rest in
    (ap (λ n. n ∷ a) first ∙ ap (λ bs. d ∷ bs) reported.0, reported.1)

-- a beginning of a known length, and what stands after it
part_apart : (a b x y : List ℕ) → length a ≡ length b → a ++ x ≡ b ++ y → (a ≡ b) × (x ≡ y)
part_apart [] [] x y n e = (refl, e)
part_apart [] (c ∷ b) x y n e = absurd (omega arith)
part_apart (c ∷ a) [] x y n e = absurd (omega arith)
part_apart (c ∷ a) (d ∷ b) x y n e =
    let rest : a ++ x ≡ b ++ y = cc in
    let first : c ≡ d = cc in
    let reported = part_apart a b x y (omega arith) rest in
    (ap (λ n. n ∷ a) first ∙ ap (λ bs. d ∷ bs) reported.0, reported.1)

-- a stream's line is one line
stream_line_one : (name bytes : List ℕ) → IsOneLine name → length bytes < 2 ^ 64 → IsOneLine (stream_line name bytes)
stream_line_one name bytes one small =
    let digits = IsOneLine-digits (decimal (length bytes)) ((decimal_is_IsNumeral (length bytes) small).0.1) in
    (is_no_feed 61 refl, (is_no_feed 61 refl, (is_no_feed 32 refl, IsOneLine-append name _ one (is_no_feed 32 refl, digits))))

-- a stream's part, and what stands after it
stream-append : (name bytes rest : List ℕ) → stream_text name bytes ++ rest ≡ stream_line name bytes ++ (10 ∷ (bytes ++ (ending bytes ++ rest)))
stream-append name bytes rest = append_assoc (stream_line name bytes) (10 ∷ (bytes ++ ending bytes)) rest ∙ ap (λ t. stream_line name bytes ++ (10 ∷ t)) (append_assoc bytes (ending bytes) rest)

stream_apart : (name a b x y : List ℕ) → IsOneLine name → length a < 2 ^ 64 → length b < 2 ^ 64
    → stream_text name a ++ x ≡ stream_text name b ++ y → (a ≡ b) × (x ≡ y)
stream_apart name a b x y one small other e =
    let lines = line_apart (stream_line name a) (stream_line name b) _ _ (stream_line_one name a one small) (stream_line_one name b one other)
    (sym (stream-append name a x) ∙ e ∙ stream-append name b y) in
    let digits = append_cancel_left (codes " ") _ _ (append_cancel_left name _ _ (append_cancel_left (codes "== ") _ _ lines.0)) in
    let count = decimal_injective (length a) (length b) small other digits in
    let parts = part_apart a b _ _ count lines.1 in
    (parts.0, append_cancel_left (ending b) _ _ (ap (λ c. ending c ++ x) (sym parts.0) ∙ parts.1))

-- what stands after the streams
abbrev after_streams : State → List Entry → Bool → List ℕ
after_streams S history lines = end_text S ++ (denials_text history ++ (tree_text (tree_of S) ++ asked_history lines history))

regroup : (a b c d e f : List ℕ) → a ++ b ++ c ++ d ++ e ++ f ≡ a ++ (b ++ (c ++ (d ++ (e ++ f))))
regroup a b c d e f = simp append_assoc

report-streams : (S : State) (history : List Entry) (lines : Bool) → report_of S history lines
    ≡ stream_text (codes "stdout") (written_to 1 S) ++ (stream_text (codes "stderr") (written_to 2 S) ++ after_streams S history lines)
report-streams S history lines =
    regroup (stream_text (codes "stdout") (written_to 1 S)) (stream_text (codes "stderr") (written_to 2 S)) (end_text S) (denials_text history) (tree_text (tree_of S))
    (asked_history lines history)

stdout_one : IsOneLine (codes "stdout")
stdout_one = (is_no_feed 115 refl, (is_no_feed 116 refl, (is_no_feed 100 refl, (is_no_feed 111 refl, (is_no_feed 117 refl, (is_no_feed 116 refl, tt))))))

stderr_one : IsOneLine (codes "stderr")
stderr_one = (is_no_feed 115 refl, (is_no_feed 116 refl, (is_no_feed 100 refl, (is_no_feed 101 refl, (is_no_feed 114 refl, (is_no_feed 114 refl, tt))))))

pub report_shows_streams : ReportShowsStreams
report_shows_streams S T history other lines more small little e =
    let first = stream_apart (codes "stdout") (written_to 1 S) (written_to 1 T) _ _ stdout_one small.0 little.0 (sym (report-streams S history lines) ∙ e ∙ report-streams T other more) in
    let second = stream_apart (codes "stderr") (written_to 2 S) (written_to 2 T) _ _ stderr_one small.1 little.1 first.1 in
    (first.0, second.0)

-- the first line feed stands after the first line
first_feed : (line rest : List ℕ) → IsOneLine line → position_or_len (λ b. b == 10) (line ++ (10 ∷ rest)) ≡ length line
first_feed [] rest one = refl
first_feed (b ∷ line) rest one = rw (is_no_feed_test b one.0) (rw (first_feed line rest one.1) (omega arith))

pub stdout_is_cut_out : StdoutIsCutOut
stdout_is_cut_out S history lines small =
    let bytes = written_to 1 S in
    let line = stream_line (codes "stdout") bytes in
    let rest = stream_text (codes "stderr") (written_to 2 S) ++ after_streams S history lines in
    let below = bytes ++ (ending bytes ++ rest) in
    let e : report_of S history lines ≡ line ++ (10 ∷ below) = report-streams S history lines ∙ stream-append (codes "stdout") bytes rest in (
      ap (λ r. before_first (λ b. b == 10) r) e ∙ ap (λ n. take n (line ++ (10 ∷ below))) (first_feed line below (stream_line_one (codes "stdout") bytes stdout_one small.0)) ∙ take-append_seam line (10 ∷ below),
      ap (λ r. take (length bytes) (drop (length line + 1) r)) e ∙ ap (take (length bytes)) (drop-append-add line (10 ∷ below) 1) ∙ take-append_seam bytes (ending bytes ++ rest),
    )
