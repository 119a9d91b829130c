-- Parts of lists of sends and of journals.
use Rattle.links.specs.declared.journal.Entry.TheVariants as entry
use Rattle.session_history.proofs.Terms.{Bool, List, [], ap, arith, cond, drop, eqb, false, inl, inr, length, length-append, map, refl, sym, true, ℕ, ◌++◌, ◌<◌, ◌∙◌, ◌∷◌, ◌≡◌, ◌≤◌, ◌⊎◌, eq-eqb, or_from, or_left, or_parts, or_right, not, ◌&&◌, Prefix, Send, sent_to, Entry, Piece, pieces_in, sent_then, Bounds, is_gone, AreBetween, AreInOrder, passed_behind, passed_in, piece_of}

-- one list in two parts, in two ways: one first part has the other, or an element less
pub two_splits : {X : Type 0} (xs ys front back : List X) → xs ++ ys ≡ front ++ back
    → ((mid : List X) × (xs ≡ front ++ mid) × (back ≡ mid ++ ys)) ⊎ ((first : X) × (mid : List X) × (front ≡ xs ++ first ∷ mid) × (ys ≡ first ∷ (mid ++ back)))
two_splits [] ys [] back same = inl ([], refl, sym same)
two_splits [] ys (f ∷ front) back same = inr (f, front, refl, same)
two_splits (x ∷ xs) ys [] back same = inl (x ∷ xs, refl, sym same)
two_splits (x ∷ xs) ys (f ∷ front) back same =
    let here : x ≡ f = cc in
    elim (two_splits xs ys front back (ap (drop 1) same)) [
      | inl found ↦ inl (found.0, ap (λ l. x ∷ l) found.1 ∙ ap (λ y. y ∷ (front ++ found.0)) here, found.2)
      | inr found ↦ inr (found.0, found.1, ap (λ l. f ∷ l) found.2 ∙ ap (λ y. y ∷ (xs ++ found.0 ∷ found.1)) (sym here), found.3)
    ]

-- numbers of items of some sends
pub between_behind : (low high : ℕ) (sends more : List Send) → AreBetween low high (sends ++ more) → AreBetween low high more
between_behind low high [] more are = are
between_behind low high (send ∷ sends) more are = between_behind low high sends more are.2

pub between_here : (low high : ℕ) (sends : List Send) (send : Send) (more : List Send) → AreBetween low high (sends ++ send ∷ more) → (low ≤ send.taken) × (send.taken ≤ high)
between_here low high sends send more are = let behind = between_behind low high sends (send ∷ more) are in (behind.0, behind.1)

in_order_behind : (high : ℕ) (sends more : List Send) → AreInOrder high (sends ++ more) → AreInOrder high more
in_order_behind high [] more are = are
in_order_behind high (send ∷ sends) more are = in_order_behind high sends more are.2

-- of two sends in order the second has no fewer items
pub later_taken : (high : ℕ) (sends : List Send) (one : Send) (mid : List Send) (other : Send) (more : List Send) → AreInOrder high (sends ++ one ∷ (mid ++ other ∷ more)) → one.taken ≤ other.taken
later_taken high sends one mid other more are = (between_here one.taken high mid other more (in_order_behind high sends (one ∷ (mid ++ other ∷ more)) are).0).0

-- the bytes of pieces for a connection
sent_by : ℕ → List Piece → List ℕ
sent_by conn [] = []
sent_by conn (piece ∷ pieces) = cond (eqb piece.conn conn) piece.bytes [] ++ sent_by conn pieces

passed_bytes : (bounds : Bounds) (conn : ℕ) (before entries : List Entry) → sent_to conn (passed_behind bounds before entries) ≡ sent_by conn (pieces_in entries)
unfolding sent_by
passed_bytes bounds conn before [] = refl
passed_bytes bounds conn before (entry.Took event ∷ entries) = passed_bytes bounds conn (before ++ entry.Took event ∷ []) entries
passed_bytes bounds conn before (entry.Gave to bytes gone ∷ entries) = ap (λ more. cond (eqb to conn) bytes [] ++ more) (passed_bytes bounds conn (before ++ entry.Gave to bytes gone ∷ []) entries)

whole_bytes : (conn : ℕ) (sends : List Send) → sent_by conn (map piece_of sends) ≡ sent_to conn sends
unfolding sent_by
whole_bytes conn [] = refl
whole_bytes conn (send ∷ sends) = ap (λ more. cond (eqb send.conn conn) send.bytes [] ++ more) (whole_bytes conn sends)

-- where the pieces are some sends, these were passed
pub front_bytes : (bounds : Bounds) (entries : List Entry) (front : List Send) (conn : ℕ) → bounds.before.had ≡ [] → pieces_in entries ≡ map piece_of front → sent_to conn (passed_in bounds entries) ≡ sent_to conn front
front_bytes bounds entries front conn none same =
    ap (λ had. sent_to conn (had ++ passed_behind bounds [] entries)) none ∙ passed_bytes bounds conn [] entries ∙ ap (sent_by conn) same ∙ whole_bytes conn front

pub never_passed : (front : List Send) (other : Send) (passed : List ℕ) → passed ≡ sent_to other.conn front → 0 < length other.bytes → Prefix (sent_to other.conn (front ++ other ∷ [])) passed → ⊥
never_passed front other passed same some begins =
    let parts = length-append (sent_to other.conn (front ++ other ∷ [])) begins.0 in
    absurd (omega (arith, ap length (sent_then other.conn front other refl), length-append (sent_to other.conn front) other.bytes, ap length begins.1, parts, ap length same, some))

-- a connection that was never gone was not before
pub gone_front : (conn : ℕ) (entries more : List Entry) → is_gone conn (entries ++ more) ≡ false → is_gone conn entries ≡ false
gone_front conn [] more h = refl
gone_front conn (entry.Took event ∷ entries) more h = gone_front conn entries more h
gone_front conn (entry.Gave to bytes gone ∷ entries) more h =
    let parts = or_parts (eqb to conn && gone) (is_gone conn (entries ++ more)) h in
    or_from (eqb to conn && gone) (is_gone conn entries) parts.0 (gone_front conn entries more parts.1)

pub gone_here : (conn : ℕ) (bytes : List ℕ) (entries more : List Entry) → is_gone conn (entries ++ entry.Gave conn bytes true ∷ more) ≡ true
gone_here conn bytes [] more = or_left (eqb conn conn && true) (is_gone conn more) (ap (λ b. b && true) (eq-eqb conn conn refl))
gone_here conn bytes (entry.Took event ∷ entries) more = gone_here conn bytes entries more
gone_here conn bytes (entry.Gave to other gone ∷ entries) more = or_right (eqb to conn && gone) (is_gone conn (entries ++ entry.Gave conn bytes true ∷ more)) (gone_here conn bytes entries more)

pub and_three : (a b c : Bool) → a ≡ true → b ≡ false → c ≡ false → (a && not b && not c) ≡ true
and_three a b c x y z = rw (x, y, z) refl
