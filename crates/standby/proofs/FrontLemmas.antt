-- What clients have got, by the pieces that were given.
use Rattle.replay.specs.Giving as giving
use Rattle.standby.proofs.Terms.{Bool, List, [], ap, append-nil, append_assoc, arith, drop, false, inl, inr, length, refl, subst, suc, sym, take, true, true≢false, zero, ℕ, ◌++◌, ◌+◌, ◌<◌, ◌∙◌, ◌∷◌, ◌≡◌, ◌≢◌, ◌≤◌, both_ways, eq-eqb, eqb-false, eqb-true, ne_eqb, drop_all, length-drop, take-append-drop, take-append-le, if◌then◌else◌, ◌&&◌, ◌==◌, ◌||◌, Prefix, Send, sent_to, LinkEvent, Piece, prefix_sent, prefix_trans, sent_to-append, sent_to-more, Path, count_of, found_gone-more, AreGiven, AreGivenInPart, found_gone, cut_in, given_to, has_got, in_pieces, is_opened, missing, missing_from, missing_of, output_of, AllIsHad, FrontsAreHad, HadIn}

-- ---- the bytes in some pieces

given_more : (conn : ℕ) (pieces : List Piece) (piece : Piece) → given_to conn (pieces ++ piece ∷ []) ≡ given_to conn pieces ++ (if piece.conn == conn then piece.bytes else [])
given_more conn [] piece = append-nil _
given_more conn (first ∷ pieces) piece = ap (λ (l : List ℕ). (if first.conn == conn then first.bytes else []) ++ l) (given_more conn pieces piece) ∙ sym (append_assoc (if first.conn == conn then first.bytes else []) (given_to conn pieces) _)

-- a connection got a front of what was sent to it, and all of it if it isn't gone
record IsGot (conn : ℕ) (sends : List Send) (pieces : List Piece) : Type 0 where
  front : Prefix (given_to conn pieces) (sent_to conn sends)
  all : found_gone conn pieces ≡ false → given_to conn pieces ≡ sent_to conn sends

longer : (xs ys more : List ℕ) → Prefix xs ys → Prefix xs (ys ++ more)
longer xs ys more front = (front.0 ++ more, sym (append_assoc xs front.0 more) ∙ ap (λ (l : List ℕ). l ++ more) front.1)

behind : {xs ys : List ℕ} (front whole : List ℕ) → xs ≡ ys → Prefix front whole → Prefix (xs ++ front) (ys ++ whole)
behind {xs = xs} front whole same is = (is.0, append_assoc xs front is.0 ∙ (λ i. same i ++ is.1 i))

or_false : (b c : Bool) → (b || c) ≡ false → (b ≡ false) × (c ≡ false)
or_false true c is = absurd (true≢false is)
or_false false c is = (refl, is)

got_piece : {conn : ℕ} {sends : List Send} {pieces : List Piece} (send : Send) (front : List ℕ) (gone : Bool) → IsGot conn sends pieces → found_gone send.conn pieces ≡ false → Prefix front send.bytes → (gone ≡ false → front ≡ send.bytes)
    → IsGot conn (sends ++ send ∷ []) (pieces ++ record { conn = send.conn; bytes = front; gone = gone } ∷ [])
got_piece {conn = conn} {sends = sends} {pieces = pieces} send front gone got fresh is whole = by (send.conn == conn) refl
  where
    given : given_to conn (pieces ++ record { conn = send.conn; bytes = front; gone = gone } ∷ []) ≡ given_to conn pieces ++ (if send.conn == conn then front else [])
    given = given_more conn pieces (record { conn = send.conn; bytes = front; gone = gone })

    found : found_gone conn (pieces ++ record { conn = send.conn; bytes = front; gone = gone } ∷ []) ≡ (found_gone conn pieces || ((send.conn == conn) && gone))
    found = found_gone-more conn pieces send.conn front gone

    by : (same : Bool) → send.conn == conn ≡ same → IsGot conn (sends ++ send ∷ []) (pieces ++ record { conn = send.conn; bytes = front; gone = gone } ∷ [])
    by true same =
        let here : given_to conn pieces ≡ sent_to conn sends = got.all (ap (λ (c : ℕ). found_gone c pieces) (sym (eqb-true send.conn conn same)) ∙ fresh) in
        let given_is : given_to conn (pieces ++ record { conn = send.conn; bytes = front; gone = gone } ∷ []) ≡ given_to conn pieces ++ front = given ∙ ap (λ (b : Bool). given_to conn pieces ++ (if b then front else [])) same in
        let sent_is : sent_to conn (sends ++ send ∷ []) ≡ sent_to conn sends ++ send.bytes = sent_to-more conn sends send ∙ ap (λ (b : Bool). sent_to conn sends ++ (if b then send.bytes else [])) same in
        record {
          front = subst (λ (l : List ℕ). Prefix l (sent_to conn (sends ++ send ∷ []))) (sym given_is) (subst (Prefix (given_to conn pieces ++ front)) (sym sent_is) (behind front send.bytes here is));
          all = λ none. given_is ∙ (λ i. here i ++ whole (or_false (found_gone conn pieces) gone (ap (λ (b : Bool). found_gone conn pieces || (b && gone)) (sym same) ∙ sym found ∙ none)).1 i) ∙ sym sent_is;
        }
    by false same =
        let given_is : given_to conn (pieces ++ record { conn = send.conn; bytes = front; gone = gone } ∷ []) ≡ given_to conn pieces = given ∙ ap (λ (b : Bool). given_to conn pieces ++ (if b then front else [])) same ∙ append-nil (given_to conn pieces) in
        let sent_is : sent_to conn (sends ++ send ∷ []) ≡ sent_to conn sends = sent_to-more conn sends send ∙ ap (λ (b : Bool). sent_to conn sends ++ (if b then send.bytes else [])) same ∙ append-nil (sent_to conn sends) in
        record {
          front = subst (λ (l : List ℕ). Prefix l (sent_to conn (sends ++ send ∷ []))) (sym given_is) (subst (Prefix (given_to conn pieces)) (sym sent_is) got.front);
          all = λ none. given_is ∙ got.all (or_false (found_gone conn pieces) ((send.conn == conn) && gone) (sym found ∙ none)).0 ∙ sym sent_is;
        }

-- nothing more is given
got_none : {conn : ℕ} {sends : List Send} {pieces : List Piece} (send : Send) → IsGot conn sends pieces → found_gone send.conn pieces ≡ true → IsGot conn (sends ++ send ∷ []) pieces
got_none {conn = conn} {sends = sends} {pieces = pieces} send got gone = record {
  front = subst (Prefix (given_to conn pieces)) (sym (sent_to-more conn sends send)) (longer (given_to conn pieces) (sent_to conn sends) _ got.front);
  all = λ none. by (send.conn == conn) refl none;
}
  where
    by : (same : Bool) → send.conn == conn ≡ same → found_gone conn pieces ≡ false → given_to conn pieces ≡ sent_to conn (sends ++ send ∷ [])
    by true same none = absurd (both_ways (found_gone conn pieces) none (ap (λ (c : ℕ). found_gone c pieces) (sym (eqb-true send.conn conn same)) ∙ gone))
    by false same none = got.all none ∙ sym (sent_to-more conn sends send ∙ ap (λ (b : Bool). sent_to conn sends ++ (if b then send.bytes else [])) same ∙ append-nil (sent_to conn sends))

got_by : (conn : ℕ) {sends : List Send} {pieces : List Piece} → AreGiven sends pieces → IsGot conn sends pieces
got_by conn giving.Nothing = record { front = ([], refl); all = λ none. refl }
got_by conn (giving.Whole sends pieces send earlier fresh) = got_piece send send.bytes false (got_by conn earlier) fresh ([], append-nil send.bytes) (λ _. refl)
got_by conn (giving.Cut sends pieces send front earlier fresh is) = got_piece send front true (got_by conn earlier) fresh is (λ no. absurd (true≢false no))
got_by conn (giving.Gone sends pieces send earlier gone) = got_none send (got_by conn earlier) gone

-- the last one perhaps in part
part_got : (conn : ℕ) {sends : List Send} {pieces : List Piece} → AreGivenInPart sends pieces → Prefix (given_to conn pieces) (sent_to conn sends)
part_got conn (giving.All sends pieces given) = (got_by conn given).front
part_got conn (giving.Unbegun sends pieces send given) = subst (Prefix (given_to conn pieces)) (sym (sent_to-more conn sends send)) (longer (given_to conn pieces) (sent_to conn sends) _ (got_by conn given).front)
part_got conn (giving.Begun sends pieces send front given fresh is) =
    subst (λ (l : List ℕ). Prefix l (sent_to conn (sends ++ send ∷ []))) (given_more conn pieces (record { conn = send.conn; bytes = front; gone = true }) ∙ sym (given_more conn pieces (record { conn = send.conn; bytes = front; gone = false })))
    (got_piece {conn = conn} {sends = sends} {pieces = pieces} send front true (got_by conn given) fresh is (λ no. absurd (true≢false no))).front

-- ---- the bytes of what was missing

cut_here : (n c conn : ℕ) (bytes : List ℕ) → c == conn ≡ true → length bytes ≤ n → sent_to conn (cut_in n c bytes) ≡ bytes
cut_here zero c conn [] same few = refl
cut_here zero c conn (byte ∷ bytes) same few = absurd (let no : ⊥ = omega (arith, few) in no)
cut_here (suc n) c conn [] same few = refl
cut_here (suc n) c conn (byte ∷ bytes) same few =
    let fewer : length (drop 65535 (byte ∷ bytes)) ≤ n = omega (arith, length-drop 65535 (byte ∷ bytes), few) in
    (λ i. (if same i then take 65535 (byte ∷ bytes) else []) ++ cut_here n c conn (drop 65535 (byte ∷ bytes)) same fewer i) ∙ take-append-drop 65535 (byte ∷ bytes)

cut_else : (n c conn : ℕ) (bytes : List ℕ) → c == conn ≡ false → sent_to conn (cut_in n c bytes) ≡ []
cut_else zero c conn bytes apart = refl
cut_else (suc n) c conn [] apart = refl
cut_else (suc n) c conn (byte ∷ bytes) apart = λ i. (if apart i then take 65535 (byte ∷ bytes) else []) ++ cut_else n c conn (drop 65535 (byte ∷ bytes)) apart i

module _ (counts : List (ℕ × ℕ)) (events : List LinkEvent) (out : ℕ → List ℕ) where
  of_here : (conn : ℕ) → sent_to conn (missing_of counts events out conn) ≡ (if is_opened conn events then drop (count_of counts conn) (out conn) else [])
  of_here conn = by (is_opened conn events)
    where
      by : (opened : Bool) → sent_to conn (if opened then in_pieces conn (drop (count_of counts conn) (out conn)) else []) ≡ (if opened then drop (count_of counts conn) (out conn) else [])
      by true = cut_here (length (drop (count_of counts conn) (out conn))) conn conn (drop (count_of counts conn) (out conn)) (eq-eqb conn conn refl) (omega arith)
      by false = refl

  of_else : (c conn : ℕ) → c == conn ≡ false → sent_to conn (missing_of counts events out c) ≡ []
  of_else c conn apart = by (is_opened c events)
    where
      by : (opened : Bool) → sent_to conn (if opened then in_pieces c (drop (count_of counts c) (out c)) else []) ≡ []
      by true = cut_else (length (drop (count_of counts c) (out c))) c conn (drop (count_of counts c) (out c)) apart
      by false = refl

  from_else : (many c conn : ℕ) → conn < c → sent_to conn (missing_from counts events out many c) ≡ []
  from_else zero c conn low = refl
  from_else (suc many) c conn low =
      let apart : c ≢ conn = λ same. let no : ⊥ = omega (arith, same, low) in no in
      sent_to-append conn (missing_of counts events out c) (missing_from counts events out many (c + 1)) ∙ (λ i. of_else c conn (ne_eqb c conn apart) i ++ from_else many (c + 1) conn (omega (arith, low)) i)

  from_here : (many c conn : ℕ) → c ≤ conn → conn < c + many → sent_to conn (missing_from counts events out many c) ≡ sent_to conn (missing_of counts events out conn)
  from_here zero c conn high low = absurd (let no : ⊥ = omega (arith, high, low) in no)
  from_here (suc many) c conn high low = by (c == conn) refl (λ apart. from_here many (c + 1) conn (omega (arith, high, apart)) (omega (arith, low)))
    where
      by : (same : Bool) → c == conn ≡ same → (c ≢ conn → sent_to conn (missing_from counts events out many (c + 1)) ≡ sent_to conn (missing_of counts events out conn))
          → sent_to conn (missing_of counts events out c ++ missing_from counts events out many (c + 1)) ≡ sent_to conn (missing_of counts events out conn)
      by true same rest =
          let here = eqb-true c conn same in
          sent_to-append conn (missing_of counts events out c) (missing_from counts events out many (c + 1))
          ∙ (λ i. sent_to conn (missing_of counts events out (here i)) ++ from_else many (c + 1) conn (omega (arith, here)) i) ∙ append-nil _
      by false same rest =
          sent_to-append conn (missing_of counts events out c) (missing_from counts events out many (c + 1))
          ∙ (λ i. of_else c conn same i ++ rest (eqb-false c conn same) i)

  missing_sent : (conn : ℕ) → conn < 4096 → sent_to conn (missing counts events out) ≡ (if is_opened conn events then drop (count_of counts conn) (out conn) else [])
  missing_sent conn low = from_here 4096 0 conn (omega arith) (omega (arith, low)) ∙ of_here conn

-- ---- what clients have

-- what was missing is what is behind the count
behind_count : (counts : List (ℕ × ℕ)) (events : List LinkEvent) (seam : Path) (conn : ℕ) → conn < 4096 → HadIn counts events seam conn → sent_to conn (missing counts events (output_of seam)) ≡ drop (count_of counts conn) (output_of seam conn)
behind_count counts events seam conn low had =
    missing_sent counts events (output_of seam) conn low
    ∙ elim had.1 [
      | inl opened ↦ ap (λ (b : Bool). if b then drop (count_of counts conn) (output_of seam conn) else []) opened
      | inr all ↦ by (is_opened conn events) (drop_all (count_of counts conn) (output_of seam conn) (omega (arith, all)))
    ]
  where
    by : (opened : Bool) → drop (count_of counts conn) (output_of seam conn) ≡ [] → (if opened then drop (count_of counts conn) (output_of seam conn) else []) ≡ drop (count_of counts conn) (output_of seam conn)
    by true none = refl
    by false none = sym none

module _ (counts : List (ℕ × ℕ)) (events : List LinkEvent) (seam path : Path) (conn : ℕ) (low : conn < 4096) (had : HadIn counts events seam conn) (later : List Send) (sent : path.state.sends ≡ seam.state.sends ++ later) where
  whole : sent_to conn path.state.sends ≡ output_of seam conn ++ sent_to conn later
  whole = ap (sent_to conn) sent ∙ sent_to-append conn seam.state.sends later

  had_is : take (count_of counts conn) (sent_to conn path.state.sends) ≡ take (count_of counts conn) (output_of seam conn)
  had_is = ap (take (count_of counts conn)) whole ∙ take-append-le (count_of counts conn) (output_of seam conn) (sent_to conn later) had.0

  dues : sent_to conn (missing counts events (output_of seam) ++ later) ≡ drop (count_of counts conn) (output_of seam conn) ++ sent_to conn later
  dues = sent_to-append conn (missing counts events (output_of seam)) later ∙ ap (λ (l : List ℕ). l ++ sent_to conn later) (behind_count counts events seam conn low had)

  both : take (count_of counts conn) (output_of seam conn) ++ sent_to conn (missing counts events (output_of seam) ++ later) ≡ sent_to conn path.state.sends
  both =
      ap (λ (l : List ℕ). take (count_of counts conn) (output_of seam conn) ++ l) dues
      ∙ sym (append_assoc (take (count_of counts conn) (output_of seam conn)) (drop (count_of counts conn) (output_of seam conn)) (sent_to conn later))
      ∙ ap (λ (l : List ℕ). l ++ sent_to conn later) (take-append-drop (count_of counts conn) (output_of seam conn))
      ∙ sym whole

pub fronts_are_had : FrontsAreHad
fronts_are_had counts events seam path pieces conn low had part =
    let dues : List Send = missing counts events (output_of seam) ++ part.later in
    let given : Prefix (given_to conn pieces) (sent_to conn dues) = prefix_trans (given_to conn pieces) (sent_to conn part.front) (sent_to conn dues) (part_got conn part.given) (prefix_sent conn part.front dues part.is_front) in
    subst (Prefix (has_got counts pieces path.state.sends conn)) (both counts events seam path conn low had part.later part.sent)
    (behind (given_to conn pieces) (sent_to conn dues) (had_is counts events seam path conn low had part.later part.sent) given)

pub all_is_had : AllIsHad
all_is_had counts events seam path pieces conn low had all fresh =
    (λ i. had_is counts events seam path conn low had all.later all.sent i ++ (got_by conn all.given).all fresh i) ∙ both counts events seam path conn low had all.later all.sent
