-- What a reference in a `Some` says, and what holds at an error since it holds anyway.
use Rattle.std.proofs.Common.{◌≡◌, true, Option, Some, None, IsSome, Result, Ok, Err, OnErr, Bor, MutBor, option_copied}
use Rattle.std.proofs.lemmas.Bool.{false≢true}
use Rattle.std.specs.Option.{option_copied_mut}
use Rattle.std.specs.Result.{is_err}

pub some_behind : {X : Type 0} (r : Option (Bor X)) → IsSome (option_copied r) → IsSome r
some_behind None there = there
some_behind (Some x) there = there

pub some_behind_mut : {X : Type 0} (r : Option (MutBor X)) → IsSome (option_copied_mut r) → IsSome r
some_behind_mut None there = there
some_behind_mut (Some x) there = there

pub on_err : {T E P : Type 0} (r : Result T E) → P → OnErr r P
on_err (Ok x) h = tt
on_err (Err e) h = h

-- what holds at an error holds where there is one
pub at_err : {T E P : Type 0} (r : Result T E) → is_err r ≡ true → OnErr r P → P
at_err (Ok x) is h = absurd (false≢true is)
at_err (Err e) is h = h
