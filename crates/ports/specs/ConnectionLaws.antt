-- How many connections are open, call by call.
use Rattle.std.proofs.Common.{◌≡◌, ◌≢◌, ℕ, zero, suc, ◌+◌, ◌<◌, ◌≤◌, Bool, true, false, List, [], ◌∷◌, ◌++◌, length, refl, ap, ◌∙◌, sym, arith, add-one}
use Rattle.std.proofs.lemmas.List.{get_or-set_same, get_or-set_other, get_or_past, length-append, length-set}
use Rattle.ports.specs.Connections.{accepted, is_open, open_count, without}

-- a connection that is open was accepted
pub open_within : (connections : List Bool) (conn : ℕ) → is_open conn connections ≡ true → conn < length connections
open_within [] conn is = cc
open_within (here ∷ connections) zero is = omega arith
open_within (here ∷ connections) (suc conn) is = let less = open_within connections conn is in omega arith

-- no more are open than were accepted
pub open_most : (connections : List Bool) → open_count connections ≤ accepted connections
open_most [] = omega arith
open_most (true ∷ connections) = let less = open_most connections in omega arith
open_most (false ∷ connections) = let less = open_most connections in omega arith

-- one that is accepted is one more
pub open_more : (connections : List Bool) → open_count (connections ++ true ∷ []) ≡ open_count connections + 1
open_more [] = refl
open_more (true ∷ connections) = let more = open_more connections in omega arith
open_more (false ∷ connections) = open_more connections

-- one that is closed is one fewer
pub open_fewer : (connections : List Bool) (conn : ℕ) → is_open conn connections ≡ true → open_count connections ≡ open_count (without conn connections) + 1
open_fewer [] conn is = cc
open_fewer (true ∷ connections) zero is = sym (add-one (open_count connections))
open_fewer (false ∷ connections) zero is = cc
open_fewer (true ∷ connections) (suc conn) is = let fewer = open_fewer connections conn is in omega arith
open_fewer (false ∷ connections) (suc conn) is = open_fewer connections conn is

-- none was accepted there
pub open_none : (connections : List Bool) (conn : ℕ) → length connections ≤ conn → is_open conn connections ≡ false
open_none connections conn past = get_or_past connections conn false past
