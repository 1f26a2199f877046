-- Bytes in a row, taken a page at a time.
--     in_page      bytes that lie in one page are a part of it
--     bytes-append      bytes in a row are the first of them and then the others
--     run_bytes, run_fault      what the rest of a page says of the bytes from there on
use Rattle.std.proofs.Common.{◌≡◌, ℕ, zero, suc, ◌+◌, ◌-◌, ◌/◌, ◌%◌, ◌^◌, ◌<◌, ◌≤◌, Bool, true, false, List, [], ◌∷◌, ◌++◌, length, take, drop, get_or, if◌then◌else◌, Option, Some, None, Result, Ok, Err, IsOk, MatchResult, refl, sym, ap, subst, ◌∙◌, arith, drop-cons, length-append, length-drop}
use borrow.Rule.Slice.PartMut.{put_mid}
use Rattle.std.specs.FinMap.{get}
use Rattle.guest_memory.specs.declared.access.Access.{Access}
use Rattle.guest_memory.specs.declared.fault.MemFault.{MemFault}
use Rattle.guest_memory.specs.declared.fault.MemFault.TheVariants.{NoRight}
use Rattle.guest_memory.specs.Page.{Page, Pages}
use Rattle.guest_memory.specs.Access.{allows}
use Rattle.guest_memory.specs.Bytes.{byte_in, byte_at, in_front, bytes_from, run_in, run_at}

pub none : (x : Access) (m : Pages) (a : ℕ) → bytes_from x m a 0 ≡ Ok []
unfolding bytes_from
none x m a = refl

pub first : (x : Access) (m : Pages) (a n : ℕ) → bytes_from x m a (suc n) ≡ in_front (byte_at x m a) (bytes_from x m ((a + 1) % 2 ^ 64) n)
unfolding bytes_from
first x m a n = refl

-- the byte at an address of a page that is there and has the right
byte_there : (x : Access) (m : Pages) (a : ℕ) (p : Page) → get m (a / 4096) ≡ Some p → allows p.prot x ≡ true → byte_at x m a ≡ Ok (get_or p.bytes (a % 4096) 0)
byte_there x m a p there allowed =
    ap (byte_in x a) there ∙ ap (λ b. if b then Ok (get_or p.bytes (a % 4096) 0) else Err (NoRight a)) allowed

take_next : (bs : List ℕ) (i n : ℕ) → i < length bs → take (suc n) (drop i bs) ≡ get_or bs i 0 ∷ take n (drop (suc i) bs)
take_next bs i n h = rw (drop-cons bs i 0 h) refl

pub in_page : (x : Access) (m : Pages) (p : Page) (n a : ℕ) → get m (a / 4096) ≡ Some p → allows p.prot x ≡ true → length p.bytes ≡ 4096 → a < 2 ^ 64 → a % 4096 + n ≤ 4096 → bytes_from x m a n ≡ Ok (take n (drop (a % 4096) p.bytes))
in_page x m p zero a there allowed whole small fits = none x m a
in_page x m p (suc zero) a there allowed whole small fits =
    let inside : a % 4096 < length p.bytes = omega arith in
    first x m a zero
    ∙ ap (λ b. in_front b (bytes_from x m ((a + 1) % 2 ^ 64) zero)) (byte_there x m a p there allowed)
    ∙ ap (in_front (Ok (get_or p.bytes (a % 4096) 0))) (none x m ((a + 1) % 2 ^ 64))
    ∙ ap Ok (sym (take_next p.bytes (a % 4096) zero inside))
in_page x m p (suc (suc n)) a there allowed whole small fits =
    let inside : a % 4096 < length p.bytes = omega arith in
    let next : (a + 1) % 2 ^ 64 ≡ a + 1 = omega arith in
    let place : (a + 1) % 4096 ≡ suc (a % 4096) = omega arith in
    let page : (a + 1) / 4096 ≡ a / 4096 = omega arith in
    let rest : bytes_from x m (a + 1) (suc n) ≡ Ok (take (suc n) (drop ((a + 1) % 4096) p.bytes)) =
    in_page x m p (suc n) (a + 1) (ap (get m) page ∙ there) allowed whole (omega arith) (omega arith) in
    first x m a (suc n)
    ∙ ap (λ b. in_front b (bytes_from x m ((a + 1) % 2 ^ 64) (suc n))) (byte_there x m a p there allowed)
    ∙ ap (λ b. in_front (Ok (get_or p.bytes (a % 4096) 0)) (bytes_from x m b (suc n))) next
    ∙ ap (in_front (Ok (get_or p.bytes (a % 4096) 0))) rest
    ∙ ap (λ i. Ok (get_or p.bytes (a % 4096) 0 ∷ take (suc n) (drop i p.bytes))) place
    ∙ ap Ok (sym (take_next p.bytes (a % 4096) (suc n) inside))

-- the first bytes and then the others, or the first fault
abbrev pub joined : Result (List ℕ) MemFault → Result (List ℕ) MemFault → Result (List ℕ) MemFault
joined (Ok xs) (Ok ys) = Ok (xs ++ ys)
joined (Ok xs) (Err fault) = Err fault
joined (Err fault) _ = Err fault

joined-none : (r : Result (List ℕ) MemFault) → joined (Ok []) r ≡ r
joined-none (Ok ys) = refl
joined-none (Err fault) = refl

joined-in_front : (b : Result ℕ MemFault) (r s : Result (List ℕ) MemFault) → joined (in_front b r) s ≡ in_front b (joined r s)
joined-in_front (Ok b) (Ok xs) (Ok ys) = refl
joined-in_front (Ok b) (Ok xs) (Err fault) = refl
joined-in_front (Ok b) (Err fault) s = refl
joined-in_front (Err fault) r s = refl

pub bytes-append : (x : Access) (m : Pages) (j k a : ℕ) → a < 2 ^ 64 → bytes_from x m a (j + k) ≡ joined (bytes_from x m a j) (bytes_from x m ((a + j) % 2 ^ 64) k)
bytes-append x m zero k a small =
    let same : zero + k ≡ k = omega arith in
    let here : (a + zero) % 2 ^ 64 ≡ a = omega arith in
    ap (bytes_from x m a) same
    ∙ sym (joined-none (bytes_from x m a k))
    ∙ ap (λ r. joined r (bytes_from x m a k)) (sym (none x m a))
    ∙ ap (λ b. joined (bytes_from x m a zero) (bytes_from x m b k)) (sym here)
bytes-append x m (suc j) k a small =
    let same : suc j + k ≡ suc (j + k) = omega arith in
    let there : ((a + 1) % 2 ^ 64 + j) % 2 ^ 64 ≡ (a + suc j) % 2 ^ 64 = omega arith in
    let rest : bytes_from x m ((a + 1) % 2 ^ 64) (j + k) ≡ joined (bytes_from x m ((a + 1) % 2 ^ 64) j) (bytes_from x m (((a + 1) % 2 ^ 64 + j) % 2 ^ 64) k) =
    bytes-append x m j k ((a + 1) % 2 ^ 64) (omega arith) in
    ap (bytes_from x m a) same
    ∙ first x m a (j + k)
    ∙ ap (in_front (byte_at x m a)) rest
    ∙ sym (joined-in_front (byte_at x m a) (bytes_from x m ((a + 1) % 2 ^ 64) j) (bytes_from x m (((a + 1) % 2 ^ 64 + j) % 2 ^ 64) k))
    ∙ ap (λ r. joined r (bytes_from x m (((a + 1) % 2 ^ 64 + j) % 2 ^ 64) k)) (sym (first x m a j))
    ∙ ap (λ b. joined (bytes_from x m a (suc j)) (bytes_from x m b k)) there

-- what a run is of: a page that is there and has the right
pub record IsRunOf (x : Access) (a : ℕ) (o : Option Page) (xs : List ℕ) : Type 0 where
  pub page : Page
  pub there : o ≡ Some page
  pub allowed : allows page.prot x ≡ true
  pub bytes : drop (a % 4096) page.bytes ≡ xs

run_allowed : (x : Access) (a : ℕ) (p : Page) (xs : List ℕ) (b : Bool) → allows p.prot x ≡ b → run_in x a (Some p) ≡ (if b then Ok (drop (a % 4096) p.bytes) else Err (NoRight a)) → run_in x a (Some p) ≡ Ok xs → IsRunOf x a (Some p) xs
run_allowed x a p xs true allowed is e = record { page = p; there = refl; allowed = allowed; bytes = cc }
run_allowed x a p xs false allowed is e = absurd (cc)

run_of : (x : Access) (a : ℕ) (o : Option Page) (xs : List ℕ) → run_in x a o ≡ Ok xs → IsRunOf x a o xs
run_of x a None xs e = absurd (cc)
run_of x a (Some p) xs e = run_allowed x a p xs (allows p.prot x) refl refl e

pub run_bytes : (x : Access) (m : Pages) (a n : ℕ) (xs : List ℕ) → run_at x m a ≡ Ok xs → length xs + a % 4096 ≡ 4096 → a < 2 ^ 64 → n ≤ length xs → bytes_from x m a n ≡ Ok (take n xs)
run_bytes x m a n xs e len small fits =
    let r : IsRunOf x a (get m (a / 4096)) xs = run_of x a (get m (a / 4096)) xs e in
    let dropped : length (drop (a % 4096) r.page.bytes) ≡ length xs = ap length r.bytes in
    let whole : length r.page.bytes ≡ 4096 = omega (arith, length-drop (a % 4096) r.page.bytes) in
    in_page x m r.page n a r.there r.allowed whole small (omega arith) ∙ ap (λ ys. Ok (take n ys)) r.bytes

fault_allowed : (x : Access) (a : ℕ) (p : Page) (fault : MemFault) (b : Bool) → (if b then Ok (drop (a % 4096) p.bytes) else Err (NoRight a)) ≡ Err fault → (if b then Ok (get_or p.bytes (a % 4096) 0) else Err (NoRight a)) ≡ Err fault
fault_allowed x a p fault true e = absurd (cc)
fault_allowed x a p fault false e = cc

fault_of : (x : Access) (a : ℕ) (o : Option Page) (fault : MemFault) → run_in x a o ≡ Err fault → byte_in x a o ≡ Err fault
fault_of x a None fault e = cc
fault_of x a (Some p) fault e = fault_allowed x a p fault (allows p.prot x) e

pub run_fault : (x : Access) (m : Pages) (a n : ℕ) (fault : MemFault) → run_at x m a ≡ Err fault → 0 < n → bytes_from x m a n ≡ Err fault
run_fault x m a zero fault e h = absurd (omega arith)
run_fault x m a (suc n) fault e h =
    first x m a n ∙ ap (λ b. in_front b (bytes_from x m ((a + 1) % 2 ^ 64) n)) (fault_of x a (get m (a / 4096)) fault e)

-- the bytes of an outcome that has them
had : (r : Result (List ℕ) MemFault) → IsOk r → (xs : List ℕ) × (r ≡ Ok xs)
had (Ok xs) h = (xs, refl)
had (Err fault) h = absurd (cc)

pub had_ok : (x : Access) (m : Pages) (a n : ℕ) (xs : List ℕ) → bytes_from x m a n ≡ Ok xs → IsOk (bytes_from x m a n)
had_ok x m a n xs e = subst IsOk (sym e) refl

pub had_none : (x : Access) (m : Pages) (a : ℕ) → IsOk (bytes_from x m a 0)
had_none x m a = had_ok x m a 0 [] (none x m a)

-- some bytes, and then a part of the next run
pub had_more : (x : Access) (m : Pages) (a done n : ℕ) (ys xs : List ℕ) → a < 2 ^ 64 → bytes_from x m a done ≡ Ok ys → run_at x m ((a + done) % 2 ^ 64) ≡ Ok xs → length xs + (a + done) % 2 ^ 64 % 4096 ≡ 4096 → n ≤ length xs → bytes_from x m a (done + n) ≡ Ok (ys ++ take n xs)
had_more x m a done n ys xs small before e len fits =
    bytes-append x m done n a small
    ∙ ap (λ r. joined r (bytes_from x m ((a + done) % 2 ^ 64) n)) before
    ∙ ap (joined (Ok ys)) (run_bytes x m ((a + done) % 2 ^ 64) n xs e len (omega arith) fits)

pub ok_more : (x : Access) (m : Pages) (a done n : ℕ) (xs : List ℕ) → a < 2 ^ 64 → IsOk (bytes_from x m a done) → run_at x m ((a + done) % 2 ^ 64) ≡ Ok xs → length xs + (a + done) % 2 ^ 64 % 4096 ≡ 4096 → n ≤ length xs → IsOk (bytes_from x m a (done + n))
ok_more x m a done n xs small before e len fits =
    let ys : (ys : List ℕ) × (bytes_from x m a done ≡ Ok ys) = had (bytes_from x m a done) before in
    had_ok x m a (done + n) (ys.0 ++ take n xs) (had_more x m a done n ys.0 xs small ys.1 e len fits)

-- some bytes, and then a fault
pub fault_more : (x : Access) (m : Pages) (a done n : ℕ) (fault : MemFault) → a < 2 ^ 64 → IsOk (bytes_from x m a done) → run_at x m ((a + done) % 2 ^ 64) ≡ Err fault → done < n → bytes_from x m a n ≡ Err fault
fault_more x m a done n fault small before e h =
    let ys : (ys : List ℕ) × (bytes_from x m a done ≡ Ok ys) = had (bytes_from x m a done) before in
    let split : n ≡ done + (n - done) = omega arith in
    ap (bytes_from x m a) split
    ∙ bytes-append x m done (n - done) a small
    ∙ ap (λ r. joined r (bytes_from x m ((a + done) % 2 ^ 64) (n - done))) ys.1
    ∙ ap (joined (Ok ys.0)) (run_fault x m ((a + done) % 2 ^ 64) (n - done) fault e (omega arith))

not_both : (r : Result (List ℕ) MemFault) (fault : MemFault) → IsOk r → r ≡ Err fault → ⊥
not_both (Ok xs) fault h e = cc
not_both (Err fault) other h e = cc

-- a run where all bytes can be had is no fault
pub never_faults : {R : Type 0} (x : Access) (m : Pages) (a done n : ℕ) (now : R → List ℕ) (r : Result R MemFault) → a < 2 ^ 64 → IsOk (bytes_from x m a done) → IsOk (bytes_from x m a n) → done < n
    → MatchResult r (λ run. run_at x m ((a + done) % 2 ^ 64) ≡ Ok (now run)) (λ fault. run_at x m ((a + done) % 2 ^ 64) ≡ Err fault) → IsOk r
never_faults x m a done n now (Ok run) small before all h is = refl
never_faults x m a done n now (Err fault) small before all h is =
    let failed : bytes_from x m a n ≡ Err fault = fault_more x m a done n fault small before is h in
    absurd (not_both (bytes_from x m a n) fault all failed)

-- a write to a part of a list makes it no shorter than the part's end
pub length-put_mid : (a k : ℕ) (xs ys : List ℕ) → length (put_mid a k xs ys) ≡ length (take a xs) + (length ys + (length xs - a - k))
length-put_mid a k xs ys =
    length-append (take a xs) (ys ++ drop k (drop a xs))
    ∙ ap (λ n. length (take a xs) + n) (length-append ys (drop k (drop a xs)) ∙ ap (λ n. length ys + n) (length-drop k (drop a xs) ∙ ap (λ n. n - k) (length-drop a xs)))
