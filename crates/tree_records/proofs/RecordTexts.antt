-- Records: what is read is encoded so, and what is encoded so is read.
use Rattle.std.proofs.Common.{◌≡◌, ◌≢◌, ℕ, ◌<◌, ◌≤◌, true, false, eqb, not, ◌&&◌, List, ◌∷◌, ◌++◌, length, Option, Some, None, Result, Ok, Err, inl, inr, refl, sym, ap, subst, ◌∙◌, append_assoc, arith, length-append}
use Rattle.std.proofs.lemmas.Bool.{and_from, and_parts, eqb-false, not-true}
use Rattle.std.proofs.lemmas.Str.{IsUtf8-from_is_utf8, is_utf8-from_IsUtf8}
use Rattle.std.specs.Cmp.Lexicographic.{bytes_decides}
use Rattle.std.specs.Fmt.{decimal}
use Rattle.std.specs.List.{list_all}
use Rattle.std.specs.Option.{option_map}
use Rattle.std.specs.Prelude.{codes, if◌then◌else◌, nat_lt, IfOk}
use Rattle.std.specs.Str.{is_utf8}
use Rattle.lists.specs.declared.stop.Stop.{Stop}
use Rattle.lists.specs.Options.{◌>>=◌, Reads}
use Rattle.lists.proofs.Chosen.{chosen, none_some, some_is}
use Rattle.lists.proofs.OptionSteps.{bind_some}
use Rattle.tree_model.specs.declared.limits.TheConstants.{MOST_FILE_BYTES}
use Rattle.tree_records.specs.declared.limits.TheConstants.{MOST_TEXT_BYTES}
use Rattle.tree_records.specs.Escapes.{escaped}
use Rattle.tree_records.specs.Paths.{Path, path_bytes, IsPath}
use Rattle.tree_records.specs.Records.{Record, dir, file, link, hard, IsLinkText, IsRecord, line, line_with, encoded}
use Rattle.tree_records.specs.Reading.{content_at, is_link_text, is_sized, is_word, number_at, path_at, record_at, record_of, record_with, record_with_content, split_once}
use Rattle.tree_records.proofs.Numbers.{decimal_without, number_again, number_found}
use Rattle.tree_records.proofs.PathTexts.{escaped_short, escaped_without, path_again, path_found}
use Rattle.tree_records.proofs.PieceTexts.{Without, content_again, content_found, split_again, split_found, without_both}
use Rattle.tree_records.proofs.Tests.{all_from_test, is_sized_from, nonzero_from_test, sized, test_from_nonzero}

abbrev some_record : Record → Option Record
some_record r = Some r

abbrev some_read : Record → List ℕ → Option (Record × List ℕ)
some_read r rest = Some (r, rest)

-- ---- texts of symlinks

link_text_from_test : (text : List ℕ) → is_link_text text ≡ true → IsLinkText text
link_text_from_test text h =
    let rest = and_parts (is_sized text MOST_TEXT_BYTES && is_utf8 text) (list_all (λ b. nat_lt 0 b) text) h in
    let front = and_parts (is_sized text MOST_TEXT_BYTES) (is_utf8 text) rest.0 in
    let size = sized text MOST_TEXT_BYTES front.0 in
    record { utf8 = IsUtf8-from_is_utf8 text front.1; some = size.0; no_zero = nonzero_from_test text rest.1; short = size.1 }

test_from_link_text : (text : List ℕ) → IsLinkText text → is_link_text text ≡ true
test_from_link_text text h =
    and_from (is_sized text MOST_TEXT_BYTES && is_utf8 text) (list_all (λ b. nat_lt 0 b) text)
    (and_from (is_sized text MOST_TEXT_BYTES) (is_utf8 text) (is_sized_from text MOST_TEXT_BYTES h.some h.short) (is_utf8-from_IsUtf8 text h.utf8))
    (test_from_nonzero text h.no_zero)

-- ---- what is read

map_read : {A B : Type 0} (f : A → B) (o : Option A) (y : B) → option_map f o ≡ Some y → (x : A) × (o ≡ Some x) × (f x ≡ y)
map_read f None y e = absurd (none_some y e)
map_read f (Some x) y e = (x, refl, some_is (f x) y e)

-- a word, a path and a content that are read make the record whose text they are
pub record IsTextOf (word : List ℕ) (p : Path) (content : List ℕ) (r : Record) : Type 0 where
  pub fits : IsRecord r
  pub text : line_with word (path_bytes p) content ≡ encoded r

word_is : (known word : List ℕ) → is_word known word ≡ true → word ≡ known
word_is known word h = (bytes_decides word known).0 h

of_file : (word : List ℕ) (p : Path) (content : List ℕ) (r : Record) → IsPath p → length content ≤ MOST_FILE_BYTES → word ≡ codes "file" → file p content ≡ r
    → IsTextOf word p content r
of_file word p content r path small is made = record {
  fits = subst IsRecord made (path, small);
  text = ap (λ (w : List ℕ). line_with w (path_bytes p) content) is ∙ ap encoded made;
}

of_link : (word : List ℕ) (p : Path) (content : List ℕ) (r : Record) → IsPath p → is_link_text content ≡ true → word ≡ codes "link" → link p content ≡ r
    → IsTextOf word p content r
of_link word p content r path good is made = record {
  fits = subst IsRecord made (path, link_text_from_test content good);
  text = ap (λ (w : List ℕ). line_with w (path_bytes p) content) is ∙ ap encoded made;
}

of_hard : (word : List ℕ) (p : Path) (content : List ℕ) (r : Record) (target : Path) → IsPath p → path_at content ≡ Some target → word ≡ codes "hard"
    → hard p target ≡ r → IsTextOf word p content r
of_hard word p content r target path read is made =
    let found = path_found content target read in
    record {
      fits = subst IsRecord made (path, found.1);
      text = ap (λ (w : List ℕ). line_with w (path_bytes p) content) is ∙ ap (line_with (codes "hard") (path_bytes p)) found.0 ∙ ap encoded made;
    }

record_of_found : (word : List ℕ) (p : Path) (content : List ℕ) (r : Record) → IsPath p → length content ≤ MOST_FILE_BYTES → record_of word p content ≡ Some r
    → IsTextOf word p content r
record_of_found word p content r path small e =
    elim (chosen (is_word (codes "file") word) (some_record (file p content)) _ (Some r) e) [
      | inl is ↦ of_file word p content r path small (word_is (codes "file") word is.0) (some_is (file p content) r is.1)
      | inr other ↦ elim (chosen (is_word (codes "link") word && is_link_text content) (some_record (link p content)) _ (Some r) other.1) [
        | inl is ↦
            let both = and_parts (is_word (codes "link") word) (is_link_text content) is.0 in
            of_link word p content r path both.1 (word_is (codes "link") word both.0) (some_is (link p content) r is.1)
        | inr third ↦ elim (chosen (is_word (codes "hard") word) (option_map (λ target. hard p target) (path_at content)) None (Some r) third.1) [
          | inl is ↦
              let target = map_read (λ (q : Path). hard p q) (path_at content) r is.1 in
              of_hard word p content r target.0 path target.1 (word_is (codes "hard") word is.0) target.2
          | inr none ↦ absurd (none_some r none.1)
        ]
      ]
    ]

-- lines, with what follows them
line_and : (word path rest : List ℕ) → (word ++ 32 ∷ escaped path) ++ 10 ∷ rest ≡ line word path ++ rest
line_and word path rest = simp append_assoc

line_with_and : (word path content rest : List ℕ)
    → (word ++ 32 ∷ (decimal (length content) ++ 32 ∷ escaped path)) ++ 10 ∷ (content ++ 10 ∷ rest) ≡ line_with word path content ++ rest
line_with_and word path content rest = simp append_assoc

abbrev IsFound : List ℕ → Record → List ℕ → Type 0
IsFound text r rest = IsRecord r × (text ≡ encoded r ++ rest)

content_case : (word arguments behind : List ℕ) (r : Record) (rest : List ℕ) → record_with_content word arguments behind ≡ Some (r, rest)
    → IsFound ((word ++ 32 ∷ arguments) ++ 10 ∷ behind) r rest
unfolding record_with_content
content_case word arguments behind r rest e =
    let size = bind_some (split_once 32 arguments) _ (r, rest) e in
    let number = bind_some (number_at size.0.0) _ (r, rest) size.2 in
    let content = bind_some (content_at number.0 behind) _ (r, rest) number.2 in
    let path = bind_some (path_at size.0.1) _ (r, rest) content.2 in
    let made = bind_some (record_of word path.0 content.0.0) _ (r, rest) path.2 in
    let same = some_is (made.0, content.0.1) (r, rest) made.2 in
    let digits = number_found size.0.0 number.0 number.1 in
    let bytes = content_found number.0 behind content.0.0 content.0.1 content.1 in
    let names = path_found size.0.1 path.0 path.1 in
    let small : length content.0.0 ≤ MOST_FILE_BYTES = omega (arith, bytes.1, digits.1) in
    let text = record_of_found word path.0 content.0.0 made.0 names.1 small made.1 in (
      subst IsRecord (ap (λ (x : Record × List ℕ). x.0) same) text.fits,
      ap (λ (xs : List ℕ). (word ++ 32 ∷ xs) ++ 10 ∷ behind) (split_found 32 arguments size.0.0 size.0.1 size.1)
          ∙ (λ i. (word ++ 32 ∷ ((digits.0 ∙ ap decimal (sym bytes.1)) i ++ 32 ∷ names.0 i)) ++ 10 ∷ bytes.0 i)
          ∙ line_with_and word (path_bytes path.0) content.0.0 content.0.1
          ∙ ap (λ (xs : List ℕ). xs ++ content.0.1) text.text
          ∙ ap (λ (x : Record × List ℕ). encoded x.0 ++ x.1) same,
    )

with_found : (word arguments behind : List ℕ) (r : Record) (rest : List ℕ) → record_with word arguments behind ≡ Some (r, rest)
    → IsFound ((word ++ 32 ∷ arguments) ++ 10 ∷ behind) r rest
with_found word arguments behind r rest e =
    elim (chosen (is_word (codes "dir") word) (option_map (λ p. (dir p, behind)) (path_at arguments)) (record_with_content word arguments behind) (Some (r, rest)) e) [
      | inl is ↦
          let path = map_read (λ (p : Path). (dir p, behind)) (path_at arguments) (r, rest) is.1 in
          let names = path_found arguments path.0 path.1 in (
            subst IsRecord (ap (λ (x : Record × List ℕ). x.0) path.2) names.1,
            (λ i. (word_is (codes "dir") word is.0 i ++ 32 ∷ names.0 i) ++ 10 ∷ behind)
                ∙ line_and (codes "dir") (path_bytes path.0) behind
                ∙ ap (λ (x : Record × List ℕ). encoded x.0 ++ x.1) path.2,
          )
      | inr other ↦ content_case word arguments behind r rest other.1
    ]

-- a record that is read is well-formed, and its text stands at the front
pub record_found : (bytes : List ℕ) (r : Record) (rest : List ℕ) → record_at bytes ≡ Some (r, rest) → IsRecord r × (bytes ≡ encoded r ++ rest)
unfolding record_at
record_found bytes r rest e =
    let head = bind_some (split_once 10 bytes) _ (r, rest) e in
    let word = bind_some (split_once 32 head.0.0) _ (r, rest) head.2 in
    let found = with_found word.0.0 word.0.1 head.0.1 r rest word.2 in (
      found.0,
      split_found 10 bytes head.0.0 head.0.1 head.1
          ∙ ap (λ (xs : List ℕ). xs ++ 10 ∷ head.0.1) (split_found 32 head.0.0 word.0.0 word.0.1 word.1)
          ∙ found.1,
    )

-- ---- what is encoded

without_from_test : (c : ℕ) (bytes : List ℕ) → list_all (λ b. not (eqb b c)) bytes ≡ true → Without c bytes
without_from_test c = all_from_test (λ b. not (eqb b c)) (λ b. b ≢ c) (λ b h. eqb-false b c (not-true (eqb b c) h))

-- a word that has no space, and what follows it in its line
head_again : (word arguments behind : List ℕ) → Without 32 word → Without 10 word → Without 10 arguments
    → record_at ((word ++ 32 ∷ arguments) ++ 10 ∷ behind) ≡ record_with word arguments behind
unfolding record_at
head_again word arguments behind no_space no_feed clean =
    ap (λ (o : Option (List ℕ × List ℕ)). o >>= λ head. split_once 32 head.0 >>= λ w. record_with w.0 w.1 head.1)
    (split_again 10 (word ++ 32 ∷ arguments) behind (without_both 10 word (32 ∷ arguments) no_feed ((λ e. omega arith), clean)))
    ∙ ap (λ (o : Option (List ℕ × List ℕ)). o >>= λ w. record_with w.0 w.1 behind) (split_again 32 word arguments no_space)

-- the length, the path and the content of a record are read again
content_again_of : (word : List ℕ) (p : Path) (content rest : List ℕ) → IsPath p → length content ≤ MOST_FILE_BYTES
    → record_with_content word (decimal (length content) ++ 32 ∷ escaped (path_bytes p)) (content ++ 10 ∷ rest)
    ≡ (record_of word p content >>= λ r. Some (r, rest))
unfolding record_with_content
content_again_of word p content rest path small =
    ap (λ (o : Option (List ℕ × List ℕ)). o >>= λ size. number_at size.0 >>= λ n. content_at n (content ++ 10 ∷ rest) >>= λ c.
    path_at size.1 >>= λ q. record_of word q c.0 >>= λ r. some_read r c.1)
    (split_again 32 (decimal (length content)) (escaped (path_bytes p)) (decimal_without 32 (length content) (λ h. omega (arith, h.0, h.1)) small))
    ∙ ap (λ (o : Option ℕ). o >>= λ n. content_at n (content ++ 10 ∷ rest) >>= λ c. path_at (escaped (path_bytes p)) >>= λ q. record_of word q c.0 >>= λ r. some_read r c.1)
    (number_again (length content) small)
    ∙ ap (λ (o : Option (List ℕ × List ℕ)). o >>= λ c. path_at (escaped (path_bytes p)) >>= λ q. record_of word q c.0 >>= λ r. some_read r c.1) (content_again content rest)
    ∙ ap (λ (o : Option Path). o >>= λ q. record_of word q content >>= λ r. some_read r rest) (path_again p path)

arguments_clean : (n : ℕ) (p : Path) → n ≤ MOST_FILE_BYTES → Without 10 (decimal n ++ 32 ∷ escaped (path_bytes p))
arguments_clean n p small =
    without_both 10 (decimal n) (32 ∷ escaped (path_bytes p)) (decimal_without 10 n (λ h. omega (arith, h.0, h.1)) small)
    ((λ e. omega arith), escaped_without (path_bytes p))

encoded_with : (word : List ℕ) (p : Path) (content rest : List ℕ) → Without 32 word → Without 10 word → is_word (codes "dir") word ≡ false
    → IsPath p → length content ≤ MOST_FILE_BYTES
    → record_at (line_with word (path_bytes p) content ++ rest) ≡ (record_of word p content >>= λ r. Some (r, rest))
encoded_with word p content rest no_space no_feed other path small =
    ap record_at (sym (line_with_and word (path_bytes p) content rest))
    ∙ head_again word (decimal (length content) ++ 32 ∷ escaped (path_bytes p)) (content ++ 10 ∷ rest) no_space no_feed (arguments_clean (length content) p small)
    ∙ ap (λ b. if b then option_map (λ q. (dir q, content ++ 10 ∷ rest)) (path_at (decimal (length content) ++ 32 ∷ escaped (path_bytes p)))
    else record_with_content word (decimal (length content) ++ 32 ∷ escaped (path_bytes p)) (content ++ 10 ∷ rest)) other
    ∙ content_again_of word p content rest path small

-- a well-formed record's text is read as that record, whatever stands behind it
pub record_again : (r : Record) (rest : List ℕ) → IsRecord r → record_at (encoded r ++ rest) ≡ Some (r, rest)
record_again (dir p) rest h =
    ap record_at (sym (line_and (codes "dir") (path_bytes p) rest))
    ∙ head_again (codes "dir") (escaped (path_bytes p)) rest (without_from_test 32 (codes "dir") refl) (without_from_test 10 (codes "dir") refl) (escaped_without (path_bytes p))
    ∙ ap (option_map (λ (q : Path). (dir q, rest))) (path_again p h)
record_again (file p content) rest h =
    encoded_with (codes "file") p content rest (without_from_test 32 (codes "file") refl) (without_from_test 10 (codes "file") refl) refl h.0 h.1
record_again (link p content) rest h =
    let short = h.1.short in
    encoded_with (codes "link") p content rest (without_from_test 32 (codes "link") refl) (without_from_test 10 (codes "link") refl) refl h.0 (omega arith)
    ∙ ap (λ (o : Option Record). o >>= λ r. some_read r rest)
    (ap (λ b. if b then some_record (link p content) else None) (test_from_link_text content h.1))
record_again (hard p target) rest h =
    let short = h.1.short in
    let written = escaped_short (path_bytes target) in
    encoded_with (codes "hard") p (escaped (path_bytes target)) rest (without_from_test 32 (codes "hard") refl) (without_from_test 10 (codes "hard") refl) refl h.0 (omega arith)
    ∙ ap (λ (o : Option Path). option_map (λ q. hard p q) o >>= λ r. some_read r rest) (path_again target h.1)

-- texts of records that begin alike are one record's
pub one_record : (r s : Record) (a b : List ℕ) → IsRecord r → IsRecord s → encoded r ++ a ≡ encoded s ++ b → (r ≡ s) × (a ≡ b)
one_record r s a b fits good same =
    let read = some_is (r, a) (s, b) (sym (record_again r a fits) ∙ ap record_at same ∙ record_again s b good) in
    (ap (λ (x : Record × List ℕ). x.0) read, ap (λ (x : Record × List ℕ). x.1) read)

-- ---- what a reader of records says

-- a record's text isn't empty
pub encoded_some : (r : Record) (rest : List ℕ) → length rest < length (encoded r ++ rest)
encoded_some r rest = let some = word_some r in omega (arith, length-append (encoded r) rest)
  where
    word_some : (s : Record) → 0 < length (encoded s)
    word_some (dir p) = omega arith
    word_some (file p bytes) = omega arith
    word_some (link p text) = omega arith
    word_some (hard p target) = omega arith

module _ {X F : Type 0} (seen : X → Record × List ℕ) (bytes : List ℕ) where
  pub found_reported : (r : Result X (Stop F)) → Reads seen r (record_at bytes)
      → IfOk r (λ x. IsRecord (seen x).0 × (bytes ≡ encoded (seen x).0 ++ (seen x).1))
  found_reported (Ok x) h = record_found bytes (seen x).0 (seen x).1 h
  found_reported (Err e) h = tt

  pub only_reported : (r : Result X (Stop F)) → Reads seen r (record_at bytes)
      → (s : Record) (rest : List ℕ) → IsRecord s → bytes ≡ encoded s ++ rest → Reads seen r (Some (s, rest))
  only_reported r h s rest fits same = subst (Reads seen r) (ap record_at same ∙ record_again s rest fits) h

  pub shorter_reported : (r : Result X (Stop F)) → Reads seen r (record_at bytes) → IfOk r (λ x. length (seen x).1 < length bytes)
  shorter_reported (Ok x) h =
      subst (λ (bs : List ℕ). length (seen x).1 < length bs) (sym (record_found bytes (seen x).0 (seen x).1 h).1) (encoded_some (seen x).0 (seen x).1)
  shorter_reported (Err e) h = tt
