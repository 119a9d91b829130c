-- Stretches of spans.
use Rattle.std.specs.Bool.{OnTrue}
use Rattle.guest_space.proofs.Terms.{Bool, List, arith, false, get_or, length, subst, sym, true, ℕ, ◌+◌, ◌-◌, ◌<◌, ◌^◌, ◌≡◌, ◌≤◌, nat_tests, Pages, Table, Stretch, GuestPages, Span, guest_pages, AreHeld, has_range, IsIn, IsOpen}
use Rattle.guest_space.proofs.FlatLemmas.{range_held}

-- what one span has
range_parts : (flag at : ℕ) (span : Span) → has_range flag at 4 span ≡ true → (span.start ≤ at) × (at + 4 ≤ span.end)
range_parts flag at span h = grind (arith, nat_tests)

range_elsewhere : (flag at other : ℕ) (span : Span) → has_range flag at 4 span ≡ true → span.start ≤ other → other + 4 ≤ span.end → has_range flag other 4 span ≡ true
range_elsewhere flag at other span h from to = grind (arith, nat_tests)

pub range_long : (flag at : ℕ) (span : Span) → has_range flag at 4 span ≡ true → span.start + 4 ≤ span.end
range_long flag at span h = let parts = range_parts flag at span h in omega arith

pub stretch_open : (flag at i : ℕ) (spans : List Span) (span : Span) (stretch : Stretch) → i < length spans → span ≡ get_or spans i span → has_range flag at 4 span ≡ true → span.end ≤ 2 ^ 32
    → stretch ≡ record { start = span.start; count = span.end - 3 - span.start } → IsOpen flag spans stretch
stretch_open flag at i spans span stretch less is h end made =
    let parts = range_parts flag at span h in
    subst (IsOpen flag spans) (sym made) record {
      below = omega arith;
      held = λ other from to. range_held flag other 4 i spans span less is (range_elsewhere flag at other span h from (omega arith));
    }

pub stretch_has : (flag at : ℕ) (span : Span) (stretch : Stretch) → has_range flag at 4 span ≡ true → stretch ≡ record { start = span.start; count = span.end - 3 - span.start } → IsIn stretch at
stretch_has flag at span stretch h made =
    let parts = range_parts flag at span h in
    let low = parts.0 in
    let high = parts.1 in
    subst (λ s. IsIn s at) (sym made) (low, omega arith)

-- a stretch of a space that is seen as its parts
pub parts_open : (flag base : ℕ) (spans seen : List Span) (store : Pages) (code : Table) (space : GuestPages) (stretch : Stretch) → guest_pages base spans store code ≡ space → seen ≡ spans → IsOpen flag seen stretch → IsOpen flag space.spans stretch
parts_open flag base spans seen store code space stretch is same h =
    subst (λ (s : GuestPages). IsOpen flag s.spans stretch) is (subst (λ xs. IsOpen flag xs stretch) same h)

-- an address of a stretch
pub stretch_held : (flag : ℕ) (spans : List Span) (stretch : Stretch) (at : ℕ) (b : Bool) → IsOpen flag spans stretch → OnTrue b ((stretch.start ≤ at) × (at < stretch.start + stretch.count)) → OnTrue b (AreHeld flag spans at 4)
stretch_held flag spans stretch at true is h = is.held at h.0 h.1
stretch_held flag spans stretch at false is h = h
