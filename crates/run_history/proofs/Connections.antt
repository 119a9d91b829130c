-- Laws of the connections that may be sent to: an open adds its own, a close removes it, and no send goes elsewhere.
use Rattle.run_history.proofs.Terms.{Bool, List, ap, false, inl, inr, length, length-set, refl, replicate, set, subst, sym, true, ℕ, ◌<◌, ◌∙◌, ◌≡◌, ◌≢◌, ◌⊎◌, both_ways, cases_eq, cases_lt, eq-eqb, ne_eqb, get_or-replicate, get_or-set_other, get_or-set_same, get_or_past, length-replicate, unwrap_or-slice_get, slice_get, unwrap_or, Item, no_connections, connections_after}

-- whether a connection may be sent to
abbrev pub may : List Bool → ℕ → Bool
may connections conn = unwrap_or (slice_get connections conn) false

-- each connection that may be sent to has this property
pub record OpenWithin (P : ℕ → Type 0) (connections : List Bool) : Type 0 where
  pub each : (conn : ℕ) → may connections conn ≡ true → P conn

none_may : (count conn : ℕ) → may (replicate count false) conn ≡ false
none_may count conn =
    unwrap_or-slice_get (replicate count false) conn false
    ∙ elim (cases_lt conn count) [
      | inl low ↦ get_or-replicate count conn false false low
      | inr past ↦ get_or_past (replicate count false) conn false (rw length-replicate past)
    ]

-- at the start there is none
pub no_connections_may : (conn : ℕ) → may no_connections conn ≡ false
unfolding no_connections
no_connections_may conn = none_may 4096 conn

-- a place that is set is as it was set
set_may : (connections : List Bool) (conn : ℕ) (value : Bool) → conn < length connections → may (set connections conn value) conn ≡ value
set_may connections conn value low = unwrap_or-slice_get (set connections conn value) conn false ∙ get_or-set_same connections conn value false low

-- each other place is as it was
set_others : (connections : List Bool) (conn other : ℕ) (value : Bool) → other ≢ conn → may (set connections conn value) other ≡ may connections other
set_others connections conn other value apart =
    unwrap_or-slice_get (set connections conn value) other false
    ∙ get_or-set_other connections conn other value false apart
    ∙ sym (unwrap_or-slice_get connections other false)

-- a place that is closed may not be sent to
set_closed : (connections : List Bool) (conn : ℕ) → may (set connections conn false) conn ≡ false
set_closed connections conn =
    elim (cases_lt conn (length connections)) [
      | inl low ↦ set_may connections conn false low
      | inr past ↦
          unwrap_or-slice_get (set connections conn false) conn false
          ∙ get_or_past (set connections conn false) conn false (rw length-set past)
    ]

after_open : (item : Item) (connections : List Bool) → item.kind ≡ 1 → connections_after item connections ≡ set connections item.conn true
after_open item connections kind = let h = eq-eqb item.kind 1 kind in rw h refl

after_close : (item : Item) (connections : List Bool) → item.kind ≡ 3 → connections_after item connections ≡ set connections item.conn false
after_close item connections kind = rw kind refl

-- an item that neither opens nor closes changes none
pub other_after : (item : Item) (connections : List Bool) → item.kind ≢ 1 → item.kind ≢ 3 → connections_after item connections ≡ connections
other_after item connections open_not close_not =
    let h = ne_eqb item.kind 1 open_not in let k = ne_eqb item.kind 3 close_not in rw (h, k) refl

-- a close's connection may not be sent to
pub closed_may : (item : Item) (connections : List Bool) → item.kind ≡ 3 → may (connections_after item connections) item.conn ≡ false
closed_may item connections kind = rw (after_close item connections kind) (set_closed connections item.conn)

-- each connection but the item's is as it was
pub others_may : (item : Item) (connections : List Bool) (other : ℕ) → other ≢ item.conn → may (connections_after item connections) other ≡ may connections other
others_may item connections other apart =
    elim (cases_eq item.kind 1) [
      | inl opens ↦ rw (after_open item connections opens) (set_others connections item.conn other true apart)
      | inr opens_not ↦ elim (cases_eq item.kind 3) [
        | inl closes ↦ rw (after_close item connections closes) (set_others connections item.conn other false apart)
        | inr closes_not ↦ rw (other_after item connections opens_not closes_not) refl
      ]
    ]

-- at the start, each that may be sent to has it, since there is none
pub within_start : (P : ℕ → Type 0) → OpenWithin P no_connections
within_start P = record { each = λ conn may_be. absurd (both_ways (may no_connections conn) (no_connections_may conn) may_be) }

-- the connection of an item that may be sent to afterwards was opened by it, or might be before
own_may : (item : Item) (connections : List Bool) → may (connections_after item connections) item.conn ≡ true → (item.kind ≡ 1) ⊎ (may connections item.conn ≡ true)
own_may item connections may_be =
    elim (cases_eq item.kind 1) [
      | inl opens ↦ inl opens
      | inr opens_not ↦ elim (cases_eq item.kind 3) [
        | inl closes ↦ absurd (both_ways (may (connections_after item connections) item.conn) (closed_may item connections closes) may_be)
        | inr closes_not ↦ inr (ap (λ v. may v item.conn) (sym (other_after item connections opens_not closes_not)) ∙ may_be)
      ]
    ]

-- if it has the property where the item opens it, the property stays
pub within_after : (P : ℕ → Type 0) (item : Item) (connections : List Bool) → OpenWithin P connections → (item.kind ≡ 1 → P item.conn) → OpenWithin P (connections_after item connections)
within_after P item connections before opens =
    record {
      each = λ conn may_be.
          elim (cases_eq conn item.conn) [
            | inl here ↦ subst P (sym here)
                (elim (own_may item connections (ap (may (connections_after item connections)) (sym here) ∙ may_be)) [
                  | inl opened ↦ opens opened
                  | inr was ↦ before.each item.conn was
                ])
            | inr apart ↦ before.each conn (sym (others_may item connections conn apart) ∙ may_be)
          ];
    }
