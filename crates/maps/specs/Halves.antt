-- What two tests that both pass say of each.
use Rattle.std.proofs.Common.{◌≢◌, Bool, true, false, ◌&&◌, T, sym, subst}

pub not_true : false ≢ true
not_true e = subst T (sym e) tt

pub first_part : (a b : Bool) → T (a && b) → T a
first_part true b h = tt
first_part false b h = h

pub second_part : (a b : Bool) → T (a && b) → T b
second_part true b h = h
second_part false b h = absurd h
