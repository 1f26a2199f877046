-- How far bytes go on as some byte list of a set begins.
use Rattle.std.proofs.Common.{◌≡◌, ℕ, zero, suc, ◌<◌, ◌≤◌, min, List, [], ◌∷◌, ◌++◌, length, take, drop, Option, Some, None, option_map, refl, sym, ap, subst, arith, length-append, length-take, take_all}
use Rattle.argdata_codec.specs.Places.{room_after}
use Rattle.argdata_codec.proofs.Fields.{AreBytes}

-- some list of the set begins with the bytes
abbrev pub Begins : (List ℕ → Type 0) → List ℕ → Type 0
Begins L bytes = (rest : List ℕ) × AreBytes rest × L (bytes ++ rest)

-- the longest beginning of the bytes that begins some list of the set
pub record Longest (L : List ℕ → Type 0) (bytes : List ℕ) (at : ℕ) : Type 0 where
  pub inside : at ≤ length bytes
  pub begins : Begins L (take at bytes)
  pub longest : (len : ℕ) → len ≤ length bytes → Begins L (take len bytes) → len ≤ at

-- a length that may be known
abbrev pub HasLength : Option ℕ → List ℕ → Type 0
HasLength None bytes = Unit {0}
HasLength (Some room) bytes = length bytes ≡ room

abbrev pub FitsIn : Option ℕ → List ℕ → Type 0
FitsIn None bytes = Unit {0}
FitsIn (Some room) bytes = length bytes ≤ room

-- the lists of a set that have the length
abbrev pub Sized : (List ℕ → Type 0) → Option ℕ → List ℕ → Type 0
Sized L room bytes = L bytes × HasLength room bytes

-- the bytes are read
abbrev pub IsRead : {A : Type 0} → Option A → Type 0
IsRead {A = A} read = (x : A) × (read ≡ Some x)

pub map_read : {A B : Type 0} (f : A → B) (read : Option A) → IsRead read → IsRead (option_map f read)
map_read f read h = (f h.0, ap (option_map f) h.1)

-- ---- bytes

pub bytes_append : (xs ys : List ℕ) → AreBytes xs → AreBytes ys → AreBytes (xs ++ ys)
bytes_append [] ys p q = q
bytes_append (x ∷ xs) ys p q = (p.0, bytes_append xs ys p.1 q)

pub bytes_take : (n : ℕ) (xs : List ℕ) → AreBytes xs → AreBytes (take n xs)
bytes_take zero xs p = tt
bytes_take (suc n) [] p = tt
bytes_take (suc n) (x ∷ xs) p = (p.0, bytes_take n xs p.1)

pub bytes_drop : (n : ℕ) (xs : List ℕ) → AreBytes xs → AreBytes (drop n xs)
bytes_drop zero xs p = p
bytes_drop (suc n) [] p = tt
bytes_drop (suc n) (x ∷ xs) p = bytes_drop n xs p.1

-- so many bytes of 0
abbrev pub zeros : ℕ → List ℕ
zeros zero = []
zeros (suc n) = 0 ∷ zeros n

pub length_zeros : (n : ℕ) → length (zeros n) ≡ n
length_zeros zero = refl
length_zeros (suc n) = ap suc (length_zeros n)

pub bytes_zeros : (n : ℕ) → AreBytes (zeros n)
bytes_zeros zero = tt
bytes_zeros (suc n) = (omega arith, bytes_zeros n)

-- ---- rooms

pub rest_fits : (room : Option ℕ) (b : ℕ) (bs : List ℕ) → FitsIn room (b ∷ bs) → FitsIn (room_after room 1) bs
rest_fits None b bs h = tt
rest_fits (Some room) b bs h = omega (arith, h)

pub rest_length : (room : Option ℕ) (b : ℕ) (bs : List ℕ) → HasLength room (b ∷ bs) → HasLength (room_after room 1) bs
rest_length None b bs h = tt
rest_length (Some room) b bs h = omega (arith, h)

-- a room that isn't 0
abbrev pub HasSpace : Option ℕ → Type 0
HasSpace None = Unit {0}
HasSpace (Some room) = 0 < room

pub space_for : (room : Option ℕ) (b : ℕ) (bs : List ℕ) → FitsIn room (b ∷ bs) → HasSpace room
space_for None b bs h = tt
space_for (Some room) b bs h = omega (arith, h)

pub whole_length : (room : Option ℕ) (b : ℕ) (bs : List ℕ) → HasSpace room → HasLength (room_after room 1) bs → HasLength room (b ∷ bs)
whole_length None b bs some h = tt
whole_length (Some room) b bs some h = omega (arith, some, h)

-- ---- the longest beginnings

-- the bytes end
pub at_end : (L : List ℕ → Type 0) → Begins L [] → Longest L [] 0
at_end L begins = record {
  inside = omega arith;
  begins = begins;
  longest = λ len le h. le;
}

-- no list of the set begins with the next byte
pub stops : (L : List ℕ → Type 0) (b : ℕ) (bs : List ℕ) → Begins L [] → AreBytes bs → ((rest : List ℕ) → AreBytes rest → L (b ∷ rest) → ⊥) → Longest L (b ∷ bs) 0
stops L b bs begins all none = record {
  inside = omega arith;
  begins = begins;
  longest = longest;
}
  where
    longest : (len : ℕ) → len ≤ length (b ∷ bs) → Begins L (take len (b ∷ bs)) → len ≤ 0
    longest zero le h = omega arith
    longest (suc len) le h = absurd (none (take len bs ++ h.0) (bytes_append (take len bs) h.0 (bytes_take len bs all) h.1) h.2)

-- the next byte, and what goes on behind it
pub goes_on : (L M : List ℕ → Type 0) (b : ℕ) (bs : List ℕ) (at : ℕ) → AreBytes bs
    → ((rest : List ℕ) → AreBytes rest → L (b ∷ rest) → M rest) → ((rest : List ℕ) → AreBytes rest → M rest → L (b ∷ rest)) → Longest M bs at → Longest L (b ∷ bs) (suc at)
goes_on L M b bs at all there back h = record {
  inside = omega (arith, h.inside);
  begins = (h.begins.0, h.begins.1, back (take at bs ++ h.begins.0) (bytes_append (take at bs) h.begins.0 (bytes_take at bs all) h.begins.1) h.begins.2);
  longest = longest;
}
  where
    longest : (len : ℕ) → len ≤ length (b ∷ bs) → Begins L (take len (b ∷ bs)) → len ≤ suc at
    longest zero le k = omega arith
    longest (suc len) le k =
        let behind = there (take len bs ++ k.0) (bytes_append (take len bs) k.0 (bytes_take len bs all) k.1) k.2 in
        omega (arith, h.longest len (omega (arith, le)) (k.0, k.1, behind))

-- all bytes begin a list of the set
pub all_of : (L : List ℕ → Type 0) (bytes : List ℕ) → Begins L bytes → Longest L bytes (length bytes)
all_of L bytes begins = record {
  inside = omega arith;
  begins = subst (Begins L) (sym (take_all (length bytes) bytes (omega arith))) begins;
  longest = λ len le h. le;
}

-- any bytes begin a list of the set, as long as they aren't too many
pub at_most_of : (L : List ℕ → Type 0) (n : ℕ) (bytes : List ℕ) → AreBytes bytes → ((p : List ℕ) → L p → length p ≤ n) → ((p : List ℕ) → AreBytes p → length p ≤ n → Begins L p)
    → Longest L bytes (min n (length bytes))
at_most_of L n bytes all short begins = record {
  inside = omega arith;
  begins = begins (take (min n (length bytes)) bytes) (bytes_take (min n (length bytes)) bytes all) (omega (arith, length-take (min n (length bytes)) bytes));
  longest = λ len le h. omega (arith, short (take len bytes ++ h.0) h.2, length-append (take len bytes) h.0, length-take len bytes, le);
}

-- the same, in other words
pub alike : (L M : List ℕ → Type 0) (bytes : List ℕ) (at : ℕ) → AreBytes bytes → ((p : List ℕ) → AreBytes p → L p → M p) → ((p : List ℕ) → AreBytes p → M p → L p) → Longest M bytes at → Longest L bytes at
alike L M bytes at all there back h = record {
  inside = h.inside;
  begins = (h.begins.0, h.begins.1, back (take at bytes ++ h.begins.0) (bytes_append (take at bytes) h.begins.0 (bytes_take at bytes all) h.begins.1) h.begins.2);
  longest = λ len le k. h.longest len le (k.0, k.1, there (take len bytes ++ k.0) (bytes_append (take len bytes) k.0 (bytes_take len bytes all) k.1) k.2);
}
