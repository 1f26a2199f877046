-- Tickets that are ready, each under the number with which it came, and the processes whose tickets wait since some worker has one of them.
use Rattle.std.specs.Prelude.{◌≡◌, ℕ, ◌+◌, ◌*◌, ◌^◌, ◌<◌, ◌==◌, ◌-◌, ◌/◌, Bool, false, cond, not, ◌&&◌, is_none, Option, None, Some}
use Rattle.std.specs.FinMap.{FinMap, empty, get, insert, remove, contains_key}
use Rattle.std.specs.Ordering.{nat_cmp}
use Rattle.maps.specs.Maps.{least_key, passes}

abbrev pub Numbers : Type 0
Numbers = FinMap nat_cmp (Unit {0})

-- The next ticket to come gets this number.
pub record Numbered (T : Type 0) : Type 0 where
  pub tickets : FinMap nat_cmp T
  pub next : ℕ
  pub busy : Numbers

abbrev pub none_numbered : {T : Type 0} → Numbered T
none_numbered = record { tickets = empty; next = 0; busy = empty }

-- ---- which ticket is first

-- whether nobody has the ticket's process, where process says whose a ticket is
abbrev pub is_free : {T : Type 0} → (T → ℕ) → Numbers → T → Bool
is_free process busy ticket = not (contains_key busy (process ticket))

-- the number of the first ticket of a process
abbrev pub first_of : {T : Type 0} → (T → ℕ) → ℕ → FinMap nat_cmp T → Option ℕ
first_of process p tickets = least_key (λ _ ticket. process ticket == p) tickets

-- the number of the first one of a free process
abbrev pub first_free : {T : Type 0} → (T → ℕ) → Numbered T → Option ℕ
first_free process all = least_key (λ _ ticket. is_free process all.busy ticket) all.tickets

-- the number of a ticket of process p that comes now, if it is the first one of a free process
abbrev pub first_if_put : {T : Type 0} → (T → ℕ) → ℕ → Numbered T → Option ℕ
first_if_put process p all = cond (not (contains_key all.busy p) && is_none (first_of process p all.tickets)) (Some all.next) None

-- ---- how they are found

-- where the ticket with number n stands of those of process p
abbrev pub place_of : ℕ → ℕ → ℕ
place_of p n = p * 2 ^ 64 + n

-- the number of the ticket at this place, if it is one of process p
abbrev pub number_beside : ℕ → ℕ → Option ℕ
number_beside p place = cond (place / 2 ^ 64 == p) (Some (place - p * 2 ^ 64)) None

-- The ticket with this number leads to process p, if there is one, or to none.
abbrev pub led_by : ℕ → Option ℕ → FinMap nat_cmp ℕ → FinMap nat_cmp ℕ
led_by p None firsts = firsts
led_by p (Some n) firsts = insert firsts n p

abbrev pub led_no_more : Option ℕ → FinMap nat_cmp ℕ → FinMap nat_cmp ℕ
led_no_more None firsts = firsts
led_no_more (Some n) firsts = remove firsts n

-- Each ticket has its place, and the first one of each free process leads to it.
pub record IsNumbered {T : Type 0} (process : T → ℕ) (tickets : FinMap nat_cmp T) (next : ℕ) (places : Numbers) (firsts : FinMap nat_cmp ℕ) (busy : Numbers) : Type 0 where
  pub small : next < 2 ^ 64
  pub below : (n : ℕ) (ticket : T) → get tickets n ≡ Some ticket → n < next
  pub placed : (p n : ℕ) → n < 2 ^ 64 → contains_key places (place_of p n) ≡ passes (λ _ ticket. process ticket == p) n (get tickets n)
  pub leads : (n p : ℕ) → get firsts n ≡ Some p → (contains_key busy p ≡ false) × (first_of process p tickets ≡ Some n)
  pub led : (n p : ℕ) → contains_key busy p ≡ false → first_of process p tickets ≡ Some n → get firsts n ≡ Some p

-- ---- what comes and goes

abbrev pub with_last : {T : Type 0} → T → Numbered T → Numbered T
with_last ticket old = record { tickets = insert old.tickets old.next ticket; next = old.next + 1; busy = old.busy }

abbrev pub without_number : {T : Type 0} → ℕ → Numbered T → Numbered T
without_number n old = record { tickets = remove old.tickets n; next = old.next; busy = old.busy }

abbrev pub with_busy : {T : Type 0} → ℕ → Numbered T → Numbered T
with_busy p old = record { tickets = old.tickets; next = old.next; busy = insert old.busy p tt }

abbrev pub with_free : {T : Type 0} → ℕ → Numbered T → Numbered T
with_free p old = record { tickets = old.tickets; next = old.next; busy = remove old.busy p }

-- The first ticket of a free process was taken, whose process is busy from then on. There was none where nothing was taken.
abbrev pub TakesFirst : {T : Type 0} → (T → ℕ) → Option T → Numbered T → Numbered T → Type 0
TakesFirst process None old new = (first_free process old ≡ None) × (new ≡ old)
TakesFirst process (Some ticket) old new =
    (n : ℕ) × (first_free process old ≡ Some n) × (get old.tickets n ≡ Some ticket) × (new ≡ without_number n (with_busy (process ticket) old))
