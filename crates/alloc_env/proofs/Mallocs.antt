-- The answers of the allocator.
use Rattle.block_book.proofs.Asks.{same-self, size-live, size-inserted}
use Rattle.block_book.proofs.Sizes.{reserved-touched}
use Rattle.block_book.proofs.Reaching.{has_live, placement-apart, reach-recycled, reach-within}
use Rattle.alloc_env.proofs.Terms.{Bool, List, None, Option, Some, ap, arith, eqb, false, if◌then◌else◌, inl, inr, min, nat_le, nat_lt, not, refl, subst, sym, true, ℕ, ◌%◌, ◌&&◌, ◌+◌, ◌-◌, ◌<◌, ◌^◌, ◌||◌, ◌∙◌, ◌≡◌, ◌≤◌, and_from, and_parts, cases_Bool, eq-eqb, eqb-true, le-leb, lt-ltb, ne_eqb, or_left, or_right, same_Some, option_map_or, option_or, is_some, unwrap_or, Ask, Realloc, Choice, Site, live-insert_block, live-recycled, placement-clear, placement-positive, placement-roomy, placement-sound, sound-filter, bytes_asked, insert_live, is_allowed, is_block, is_calloc, is_clear, kept_count, live_blocks, live_with, may_carry, moved_count, replaced, same_ask, size_at, without_live, without_replaced, is_apart, lies_in, live_block, reach, reserved_size, Heap, IsHeap, is_live_at, reach_at, recycled, with_block, placement, Env, All, Delay, Isolate, Pad, Plain, Zero, treatment_of, Served, carried_over, freed, in_place_of, middle, served_ask, served_at, served_block, served_in, served_null, served_over, spot, Follows, Serves}
use Rattle.alloc_env.proofs.Frees.{freed-follows}

side-multiple : (env : Env) → (treatment_of env).side % 16 ≡ 0
side-multiple Plain = refl
side-multiple Pad = refl
side-multiple Zero = refl
side-multiple Isolate = refl
side-multiple Delay = refl
side-multiple All = refl

side-small : (env : Env) → (treatment_of env).side ≤ 256
side-small Plain = omega arith
side-small Pad = omega arith
side-small Zero = omega arith
side-small Isolate = omega arith
side-small Delay = omega arith
side-small All = omega arith

-- where a block goes, by what the two tries answer
pub spot-anywhere : (env : Env) (heap : Heap) (size : ℕ) → (treatment_of env).isolates ≡ false → spot env heap size ≡ placement heap size (treatment_of env).side 0
unfolding spot
spot-anywhere env heap size h =
    let anywhere = placement heap size (treatment_of env).side 0 in
    ap (λ b. if b then option_or (placement heap size (treatment_of env).side (middle heap)) anywhere else anywhere) h

pub spot-above : (env : Env) (heap : Heap) (size : ℕ) → (treatment_of env).isolates ≡ true → spot env heap size ≡ option_or (placement heap size (treatment_of env).side (middle heap)) (placement heap size (treatment_of env).side 0)
unfolding spot
spot-above env heap size h =
    let anywhere = placement heap size (treatment_of env).side 0 in
    ap (λ b. if b then option_or (placement heap size (treatment_of env).side (middle heap)) anywhere else anywhere) h

-- it goes where one of them places it
spot-placed : (env : Env) (heap : Heap) (size at : ℕ) → spot env heap size ≡ Some at → (from : ℕ) × (placement heap size (treatment_of env).side from ≡ Some at)
unfolding spot
spot-placed env heap size at = by-isolates (treatment_of env).isolates
  where
    side : ℕ
    side = (treatment_of env).side

    by-or : (o : Option ℕ) → placement heap size side (middle heap) ≡ o → option_or o (placement heap size side 0) ≡ Some at → (from : ℕ) × (placement heap size side from ≡ Some at)
    by-or None e h = (0, h)
    by-or (Some above) e h = (middle heap, e ∙ h)

    by-isolates : (b : Bool) → (if b then option_or (placement heap size side (middle heap)) (placement heap size side 0) else placement heap size side 0) ≡ Some at → (from : ℕ) × (placement heap size side from ≡ Some at)
    by-isolates true h = by-or (placement heap size side (middle heap)) refl h
    by-isolates false h = (0, h)

-- the live blocks with a new one, unless the answer is null
abbrev placed_live : Choice → List (ℕ × ℕ) → List (ℕ × ℕ)
placed_live choice live = if eqb choice.at 0 then live else insert_live (choice.at, bytes_asked choice.ask) live

-- Bytes from a live block's address on, as many as its extent and that of a new one of a size have there: where they go they meet no live block, and
-- none of those that they come from.
abbrev pub Carries : ℕ → Heap → ℕ → ℕ → Type 0
Carries side heap size at =
    (old reaches count : ℕ) → reach_at heap old ≡ Some reaches → count ≤ reaches → count ≤ reserved_size size + side →
    (is_clear heap.start heap.end (live_blocks heap.blocks) at count ≡ true) × (is_apart old count at (at + count) ≡ true)

-- what is so of a new block, whatever it is to replace
pub record Places (env : Env) (heap : Heap) (ask : Ask) (served : Served) : Type 0 where
  pub asked : served.choice.ask ≡ ask
  pub nothing : served.choice.carried ≡ 0
  pub carries : (served.choice.at ≡ 0 → ⊥) → Carries (treatment_of env).side heap (bytes_asked served.choice.ask) served.choice.at
  pub allowed : is_allowed heap.start heap.end (live_blocks heap.blocks) ask served.choice ≡ true
  pub zeroed : served.choice.zeroed ≡ (((treatment_of env).zeroes || is_calloc ask) && not (eqb served.choice.at 0))
  pub sound : IsHeap served.heap
  pub start : served.heap.start ≡ heap.start
  pub end : served.heap.end ≡ heap.end
  pub live : live_blocks served.heap.blocks ≡ placed_live served.choice (live_blocks heap.blocks)

-- an answer that isn't null
places-at : (env : Env) (heap : Heap) (site : Site) (ask : Ask) (at : ℕ) → nat_lt (bytes_asked ask) (2 ^ 32) ≡ true → IsHeap heap → spot env heap (bytes_asked ask) ≡ Some at → Places env heap ask (served_at env heap site ask at)
unfolding is_allowed is_block
places-at env heap site ask at few sound is =
    let size = bytes_asked ask in
    let side = (treatment_of env).side in
    let zeroed = (treatment_of env).zeroes || is_calloc ask in
    let placed = spot-placed env heap size at is in
    let positive = placement-positive heap size side placed.0 at sound placed.1 in
    let named : eqb at 0 ≡ false = ne_eqb at 0 (λ e. absurd (omega arith)) in
    let clear = placement-clear heap size side placed.0 at (side-multiple env) placed.1 in
    let inside : Bool = nat_lt size (2 ^ 32) && is_clear heap.start heap.end (live_blocks heap.blocks) at size in
    let block : (inside && (zeroed || not (is_calloc ask))) ≡ true =
    and_from inside (zeroed || not (is_calloc ask)) (and_from (nat_lt size (2 ^ 32)) (is_clear heap.start heap.end (live_blocks heap.blocks) at size) few clear) (zeroes-calloc (treatment_of env).zeroes (is_calloc ask)) in
    record {
      asked = refl;
      nothing = refl;
      carries = λ some old reaches count there few small. (
        placement-roomy heap size side placed.0 at count (side-multiple env) placed.1 small,
        placement-apart heap size side placed.0 at old reaches count placed.1 there few small,
      );
      allowed =
          and_from (same_ask ask ask) (((eqb at 0 && not zeroed) && true) || ((inside && (zeroed || not (is_calloc ask))) && true)) (same-self ask)
          (or_right ((eqb at 0 && not zeroed) && true) ((inside && (zeroed || not (is_calloc ask))) && true) (and_from (inside && (zeroed || not (is_calloc ask))) true block refl));
      zeroed = sym (ap (λ b. zeroed && not b) named ∙ and-true zeroed);
      sound = placement-sound heap size side placed.0 at site sound (side-multiple env) (side-small env) placed.1;
      start = refl;
      end = refl;
      live =
          live-insert_block at size side heap.start site heap.blocks heap.end sound.standing
          ∙ sym (ap (λ b. if b then live_blocks heap.blocks else insert_live (at, size) (live_blocks heap.blocks)) named);
    }
  where
    and-true : (b : Bool) → (b && true) ≡ b
    and-true true = refl
    and-true false = refl

    zeroes-calloc : (zeroes calloc : Bool) → ((zeroes || calloc) || not calloc) ≡ true
    zeroes-calloc true calloc = refl
    zeroes-calloc false true = refl
    zeroes-calloc false false = refl

-- null
places-null : (env : Env) (heap : Heap) (ask : Ask) → IsHeap heap → Places env heap ask (served_null heap ask)
unfolding is_allowed
places-null env heap ask sound = record {
  asked = refl;
  nothing = refl;
  carries = λ some. absurd (some refl);
  allowed = and_from (same_ask ask ask) true (same-self ask) refl;
  zeroed = sym (and-false ((treatment_of env).zeroes || is_calloc ask));
  sound = sound;
  start = refl;
  end = refl;
  live = refl;
}
  where
    and-false : (b : Bool) → (b && false) ≡ false
    and-false true = refl
    and-false false = refl

-- an answer after recycling is one of the heap before it
places-recycled : (env : Env) (heap : Heap) (ask : Ask) (served : Served) → Places env (recycled heap) ask served → Places env heap ask served
places-recycled env heap ask served s = record {
  asked = s.asked;
  nothing = s.nothing;
  carries = λ some old reaches count there few small.
      let p = s.carries some old reaches count (reach-recycled heap old ∙ there) few small in
      (subst (λ live. is_clear heap.start heap.end live served.choice.at count ≡ true) (live-recycled heap.blocks) p.0, p.1);
  allowed = subst (λ live. is_allowed heap.start heap.end live ask served.choice ≡ true) (live-recycled heap.blocks) s.allowed;
  zeroed = s.zeroed;
  sound = s.sound;
  start = s.start;
  end = s.end;
  live = s.live ∙ ap (placed_live served.choice) (live-recycled heap.blocks);
}

places-tried : (env : Env) (heap : Heap) (site : Site) (ask : Ask) (otherwise : Served) → nat_lt (bytes_asked ask) (2 ^ 32) ≡ true → IsHeap heap → Places env heap ask otherwise → (o : Option ℕ) → spot env heap (bytes_asked ask) ≡ o → Places env heap ask (option_map_or (served_at env heap site ask) o otherwise)
places-tried env heap site ask otherwise few sound s None e = s
places-tried env heap site ask otherwise few sound s (Some at) e = places-at env heap site ask at few sound e

pub block-places : (env : Env) (heap : Heap) (site : Site) (ask : Ask) → IsHeap heap → Places env heap ask (served_block env heap site ask)
unfolding served_block
block-places env heap site ask sound = of_bytes (nat_lt (bytes_asked ask) (2 ^ 32)) refl
  where
    left : Heap
    left = recycled heap

    of_bytes : (b : Bool) → nat_lt (bytes_asked ask) (2 ^ 32) ≡ b → Places env heap ask (if b then served_in env heap site ask (served_in env left site ask (served_null left ask)) else served_null heap ask)
    of_bytes false e = places-null env heap ask sound
    of_bytes true e =
        let sound' = sound-filter (λ block. not block.delayed) heap heap.freed sound in
        let again = places-tried env left site ask (served_null left ask) e sound' (places-null env left ask sound') (spot env left (bytes_asked ask)) refl in
        places-tried env heap site ask (served_in env left site ask (served_null left ask)) e sound (places-recycled env heap ask (served_in env left site ask (served_null left ask)) again) (spot env heap (bytes_asked ask)) refl

-- a block that is live stays so where a new one is placed
pub block-keeps : (env : Env) (heap : Heap) (site : Site) (ask : Ask) (served : Served) (old : ℕ) → IsHeap heap → served_block env heap site ask ≡ served → is_live_at heap old ≡ true → is_live_at served.heap old ≡ true
block-keeps env heap site ask served old sound is lives =
    let s = subst (Places env heap ask) is (block-places env heap site ask sound) in
    sym (size-live old served.heap.blocks) ∙ ap (λ live. is_some (size_at old live)) s.live ∙ of_null (eqb served.choice.at 0) (size-live old heap.blocks ∙ lives)
  where
    of_null : (b : Bool) → is_some (size_at old (live_blocks heap.blocks)) ≡ true
        → is_some (size_at old (if b then live_blocks heap.blocks else insert_live (served.choice.at, bytes_asked served.choice.ask) (live_blocks heap.blocks))) ≡ true
    of_null true h = h
    of_null false h = size-inserted old served.choice.at (bytes_asked served.choice.ask) (live_blocks heap.blocks) h

-- how many bytes an answer carries
pub carried-none : (env : Env) (heap : Heap) (old size : ℕ) → (treatment_of env).side ≡ 0 → carried_over env heap old size ≡ 0
unfolding carried_over
carried-none env heap old size flat =
    ap (λ b. if b then 0 else min (unwrap_or (reach_at heap old) 0) (reserved_size size + (treatment_of env).side) - kept_count (live_blocks heap.blocks) size (Some old))
    (eq-eqb (treatment_of env).side 0 flat)

pub carried-some : (env : Env) (heap : Heap) (old size : ℕ) → ((treatment_of env).side ≡ 0 → ⊥)
    → carried_over env heap old size ≡ min (unwrap_or (reach_at heap old) 0) (reserved_size size + (treatment_of env).side) - kept_count (live_blocks heap.blocks) size (Some old)
unfolding carried_over
carried-some env heap old size pads =
    ap (λ b. if b then 0 else min (unwrap_or (reach_at heap old) 0) (reserved_size size + (treatment_of env).side) - kept_count (live_blocks heap.blocks) size (Some old))
    (ne_eqb (treatment_of env).side 0 pads)

pub reach-small : (heap : Heap) (old : ℕ) → IsHeap heap → heap.end < 2 ^ 32 → unwrap_or (reach_at heap old) 0 < 2 ^ 32
reach-small heap old sound near = of_reach (reach_at heap old) refl
  where
    of_reach : (o : Option ℕ) → reach_at heap old ≡ o → unwrap_or o 0 < 2 ^ 32
    of_reach None e = omega arith
    of_reach (Some reaches) e = let within = reach-within heap old reaches sound e in omega (arith, within.1, near)

-- with those that are kept they are no more than both extents have
counts : (old_size reaches size reserved side kept carried : ℕ) → kept ≡ min old_size size → carried ≡ min reaches (reserved + side) - kept → old_size ≤ reaches → size ≤ reserved
    → (kept + carried ≤ reaches) × (kept + carried ≤ reserved + side)
counts old_size reaches size reserved side kept carried kept_is carried_is low high = (omega arith, omega arith)

-- what is carried may be
carried-fine : (env : Env) (heap : Heap) (old : ℕ) (choice : Choice) → IsHeap heap → is_live_at heap old ≡ true → replaced choice.ask ≡ Some old
    → Carries (treatment_of env).side heap (bytes_asked choice.ask) choice.at
    → ((eqb (carried_over env heap old (bytes_asked choice.ask)) 0)
    || may_carry heap.start heap.end (live_blocks heap.blocks) (record choice { carried = carried_over env heap old (bytes_asked choice.ask) }) (replaced choice.ask)) ≡ true
unfolding may_carry
carried-fine env heap old choice sound lives over carries =
    elim (cases_Bool (eqb side 0)) [
      | inl flat ↦ or_left (eqb carried 0) (may_carry heap.start heap.end live (record choice { carried = carried }) (replaced choice.ask)) (eq-eqb carried 0 (carried-none env heap old size (eqb-true side 0 flat)))
      | inr pads ↦
          or_right (eqb carried 0) (may_carry heap.start heap.end live (record choice { carried = carried }) (replaced choice.ask))
          (subst (λ (o : Option ℕ). may_carry heap.start heap.end live (record choice { carried = carried }) o ≡ true) (sym over) (fine (λ none. absurd (let yes : eqb side 0 ≡ true = eq-eqb side 0 none in cc))))
    ]
  where
    side : ℕ
    side = (treatment_of env).side

    size : ℕ
    size = bytes_asked choice.ask

    live : List (ℕ × ℕ)
    live = live_blocks heap.blocks

    carried : ℕ
    carried = carried_over env heap old size

    kept : ℕ
    kept = kept_count live size (Some old)

    fine : (side ≡ 0 → ⊥) → (lies_in old (kept + carried) heap.start heap.end && is_clear heap.start heap.end live choice.at (kept + carried) && is_apart old (kept + carried) choice.at (choice.at + (kept + carried))) ≡ true
    fine pads =
        let has = has_live heap old lives in
        let reaches = reach has.block in
        let holds = reserved-touched has.block.size in
        let room = reserved-touched size in
        let kept_is : kept ≡ min has.block.size size = ap (λ o. min (unwrap_or o 0) size) has.size in
        let carried_is : carried ≡ min reaches (reserved_size size + side) - kept = carried-some env heap old size pads ∙ ap (λ o. min (unwrap_or o 0) (reserved_size size + side) - kept) has.reaches in
        let few = counts has.block.size reaches size (reserved_size size) side kept carried kept_is carried_is (omega (arith, holds)) (omega (arith, room)) in
        let within = reach-within heap old reaches sound has.reaches in
        let p = carries old reaches (kept + carried) has.reaches few.0 few.1 in
        and_from (lies_in old (kept + carried) heap.start heap.end && is_clear heap.start heap.end live choice.at (kept + carried)) (is_apart old (kept + carried) choice.at (choice.at + (kept + carried)))
        (and_from (lies_in old (kept + carried) heap.start heap.end) (is_clear heap.start heap.end live choice.at (kept + carried))
        (and_from (nat_le heap.start old) (nat_le (old + (kept + carried)) heap.end) (le-leb heap.start old within.0) (le-leb (old + (kept + carried)) heap.end (omega (arith, within.1, few.0))))
        p.0)
        p.1

-- an answer that C allows is one too with bytes that may be carried
allowed-carrying : (start end : ℕ) (live : List (ℕ × ℕ)) (ask : Ask) (choice : Choice) (carried : ℕ) → is_allowed start end live ask choice ≡ true → (choice.at ≡ 0 → ⊥)
    → ((eqb carried 0) || may_carry start end live (record choice { carried = carried }) (replaced choice.ask)) ≡ true → is_allowed start end live ask (record choice { carried = carried }) ≡ true
unfolding is_allowed is_block
allowed-carrying start end live ask choice carried may named fine =
    let inside : Bool = nat_lt (bytes_asked choice.ask) (2 ^ 32) && is_clear start end live choice.at (bytes_asked choice.ask) && (choice.zeroed || not (is_calloc choice.ask)) in
    let before : Bool = (eqb choice.carried 0) || may_carry start end live choice (replaced choice.ask) in
    let behind : Bool = (eqb carried 0) || may_carry start end live (record choice { carried = carried }) (replaced choice.ask) in
    let null : eqb choice.at 0 ≡ false = ne_eqb choice.at 0 named in
    let parts = and_parts (same_ask choice.ask ask) (inside && before) (rw null at may) in
    let block = and_parts inside before parts.1 in
    rw null (and_from (same_ask choice.ask ask) (inside && behind) parts.0 (and_from inside behind block.0 fine))

-- a new block that stands in place of none
serves-new : (env : Env) (heap : Heap) (ask : Ask) (served : Served) → replaced ask ≡ None → Places env heap ask served → Serves env heap ask served
serves-new env heap ask served none s = record {
  asked = s.asked;
  allowed = s.allowed;
  zeroed = s.zeroed;
  carried = λ flat. s.nothing;
  sound = s.sound;
  start = s.start;
  end = s.end;
  live = s.live ∙ sym (ap (λ (replaced : Option ℕ). if eqb served.choice.at 0 then live_blocks heap.blocks else without_replaced replaced (insert_live (served.choice.at, bytes_asked served.choice.ask) (live_blocks heap.blocks))) (ap replaced s.asked ∙ none));
}

-- a new block in place of an old one
serves-over : (env : Env) (heap : Heap) (site : Site) (ask : Ask) (old : ℕ) (served : Served) → IsHeap heap → is_live_at heap old ≡ true → replaced ask ≡ Some old → Places env heap ask served
    → Serves env heap ask (in_place_of env heap site old (bytes_asked ask) served)
serves-over env heap site ask old served sound lives is s = of_null (eqb served.choice.at 0) refl
  where
    carrying : eqb served.choice.at 0 ≡ false → is_allowed heap.start heap.end (live_blocks heap.blocks) ask (record served.choice { carried = carried_over env heap old (bytes_asked ask) }) ≡ true
    carrying named =
        let some : served.choice.at ≡ 0 → ⊥ = λ null. absurd (let yes : eqb served.choice.at 0 ≡ true = eq-eqb served.choice.at 0 null in cc) in
        subst (λ n. is_allowed heap.start heap.end (live_blocks heap.blocks) ask (record served.choice { carried = n }) ≡ true) (ap (λ (a : Ask). carried_over env heap old (bytes_asked a)) s.asked)
        (allowed-carrying heap.start heap.end (live_blocks heap.blocks) ask served.choice (carried_over env heap old (bytes_asked served.choice.ask)) s.allowed some
        (carried-fine env heap old served.choice sound lives (ap replaced s.asked ∙ is) (s.carries some)))

    behind : Follows served.heap old (freed env served.heap site old)
    behind = freed-follows env served.heap site old s.sound

    with_replaced : (b : Bool) → Option ℕ → List (ℕ × ℕ)
    with_replaced b replaced = if b then live_blocks heap.blocks else without_replaced replaced (insert_live (served.choice.at, bytes_asked served.choice.ask) (live_blocks heap.blocks))

    of_null : (b : Bool) → eqb served.choice.at 0 ≡ b → Serves env heap ask
        (if b then served else record { choice = record served.choice { carried = carried_over env heap old (bytes_asked ask) }; heap = freed env served.heap site old })
    of_null true null = record {
      asked = s.asked;
      allowed = s.allowed;
      zeroed = s.zeroed;
      carried = λ flat. s.nothing;
      sound = s.sound;
      start = s.start;
      end = s.end;
      live =
          s.live
          ∙ ap (λ b. if b then live_blocks heap.blocks else insert_live (served.choice.at, bytes_asked served.choice.ask) (live_blocks heap.blocks)) null
          ∙ sym (ap (λ b. with_replaced b (replaced served.choice.ask)) null);
    }
    of_null false named = record {
      asked = s.asked;
      allowed = carrying named;
      zeroed = s.zeroed;
      carried = λ flat. carried-none env heap old (bytes_asked ask) flat;
      sound = behind.sound;
      start = behind.start ∙ s.start;
      end = behind.end ∙ s.end;
      live =
          behind.live
          ∙ ap (without_live old) (s.live ∙ ap (λ b. if b then live_blocks heap.blocks else insert_live (served.choice.at, bytes_asked served.choice.ask) (live_blocks heap.blocks)) named)
          ∙ sym (ap (λ b. with_replaced b (replaced served.choice.ask)) named ∙ ap (with_replaced false) (ap replaced s.asked ∙ is));
    }

-- what is so of each answer to an ask
pub ask-serves : (env : Env) (heap : Heap) (site : Site) (ask : Ask) (served : Served) → IsHeap heap → served_ask env heap site ask ≡ Some served → Serves env heap ask served
unfolding served_ask
ask-serves env heap site ask served sound is = of_replaced (replaced ask) refl is
  where
    block : Served
    block = served_block env heap site ask

    over : (old : ℕ) → replaced ask ≡ Some old → (b : Bool) → is_live_at heap old ≡ b → (if b then Some (in_place_of env heap site old (bytes_asked ask) block) else None) ≡ Some served → Serves env heap ask served
    over old e true lives h =
        subst (Serves env heap ask) (same_Some (in_place_of env heap site old (bytes_asked ask) block) served h) (serves-over env heap site ask old block sound lives e (block-places env heap site ask sound))
    over old e false lives h = absurd (cc h)

    of_replaced : (o : Option ℕ) → replaced ask ≡ o → served_over env heap site ask o ≡ Some served → Serves env heap ask served
    of_replaced None e h = subst (Serves env heap ask) (same_Some block served h) (serves-new env heap ask block e (block-places env heap site ask sound))
    of_replaced (Some old) e h = over old e (is_live_at heap old) refl h

-- a realloc of what isn't null replaces that
pub replaces : (old size : ℕ) → (old ≡ 0 → ⊥) → replaced (Realloc old size) ≡ Some old
replaces old size named = ap (λ b. if b then None else Some old) (ne_eqb old 0 named)

pub replaces-none : (old size : ℕ) → old ≡ 0 → replaced (Realloc old size) ≡ None
replaces-none old size null = ap (λ b. if b then None else Some old) (eq-eqb old 0 null)

-- an answer, by the block that it replaces
pub served-new : (env : Env) (heap : Heap) (site : Site) (ask : Ask) (served : Served) → replaced ask ≡ None → served_block env heap site ask ≡ served → served_ask env heap site ask ≡ Some served
unfolding served_ask
served-new env heap site ask served none is = ap (served_over env heap site ask) none ∙ ap Some is

pub served-in_place : (env : Env) (heap : Heap) (site : Site) (ask : Ask) (old : ℕ) (served : Served) → replaced ask ≡ Some old → is_live_at heap old ≡ true → in_place_of env heap site old (bytes_asked ask) (served_block env heap site ask) ≡ served → served_ask env heap site ask ≡ Some served
unfolding served_ask
served-in_place env heap site ask old served over lives is =
    ap (served_over env heap site ask) over ∙ ap (λ b. if b then Some (in_place_of env heap site old (bytes_asked ask) (served_block env heap site ask)) else None) lives ∙ ap Some is

pub served-bad : (env : Env) (heap : Heap) (site : Site) (ask : Ask) (old : ℕ) → replaced ask ≡ Some old → is_live_at heap old ≡ false → served_ask env heap site ask ≡ None
unfolding served_ask
served-bad env heap site ask old over none =
    ap (served_over env heap site ask) over ∙ ap (λ b. if b then Some (in_place_of env heap site old (bytes_asked ask) (served_block env heap site ask)) else None) none

-- what a new block is, by its two tries
pub block-many : (env : Env) (heap : Heap) (site : Site) (ask : Ask) → nat_lt (bytes_asked ask) (2 ^ 32) ≡ false → served_block env heap site ask ≡ served_null heap ask
unfolding served_block
block-many env heap site ask many = ap (λ b. if b then served_in env heap site ask (served_in env (recycled heap) site ask (served_null (recycled heap) ask)) else served_null heap ask) many

block-few : (env : Env) (heap : Heap) (site : Site) (ask : Ask) → nat_lt (bytes_asked ask) (2 ^ 32) ≡ true → served_block env heap site ask ≡ served_in env heap site ask (served_in env (recycled heap) site ask (served_null (recycled heap) ask))
unfolding served_block
block-few env heap site ask few = ap (λ b. if b then served_in env heap site ask (served_in env (recycled heap) site ask (served_null (recycled heap) ask)) else served_null heap ask) few

-- so many bytes that an ask's number of them is this
pub record IsSized (ask : Ask) (size : ℕ) : Type 0 where
  pub is : size ≡ bytes_asked ask
  pub few : size < 2 ^ 32

few-bytes : (ask : Ask) (size : ℕ) → IsSized ask size → nat_lt (bytes_asked ask) (2 ^ 32) ≡ true
few-bytes ask size sized = let is = sized.is in let few = sized.few in lt-ltb (bytes_asked ask) (2 ^ 32) (omega arith)

-- what the code makes of its two tries
abbrev with_marks : Ask → ℕ → Bool → Heap → Served
with_marks ask at zeroed heap = record { choice = record { ask = ask; at = at; zeroed = zeroed; carried = 0 }; heap = heap }

pub block-first : (env : Env) (heap after : Heap) (site : Site) (ask : Ask) (size at : ℕ) (zeroed : Bool) → IsSized ask size → zeroed ≡ ((treatment_of env).zeroes || is_calloc ask) → Some at ≡ spot env heap size → after ≡ with_block heap (live_block at size (treatment_of env).side site) → served_block env heap site ask ≡ with_marks ask at zeroed after
block-first env heap after site ask size at zeroed sized zeroes is new =
    block-few env heap site ask (few-bytes ask size sized)
    ∙ ap (λ o. option_map_or (served_at env heap site ask) o (served_in env (recycled heap) site ask (served_null (recycled heap) ask))) (ap (spot env heap) (sym sized.is) ∙ sym is)
    ∙ ap (λ b. with_marks ask at b (with_block heap (live_block at (bytes_asked ask) (treatment_of env).side site))) (sym zeroes)
    ∙ ap (λ n. with_marks ask at zeroed (with_block heap (live_block at n (treatment_of env).side site))) (sym sized.is)
    ∙ ap (with_marks ask at zeroed) (sym new)

pub block-again : (env : Env) (heap left after : Heap) (site : Site) (ask : Ask) (size at : ℕ) (zeroed : Bool) → IsSized ask size → zeroed ≡ ((treatment_of env).zeroes || is_calloc ask) → None ≡ spot env heap size → left ≡ recycled heap → Some at ≡ spot env left size → after ≡ with_block left (live_block at size (treatment_of env).side site) → served_block env heap site ask ≡ with_marks ask at zeroed after
block-again env heap left after site ask size at zeroed sized zeroes none emptied is new =
    block-few env heap site ask (few-bytes ask size sized)
    ∙ ap (λ o. option_map_or (served_at env heap site ask) o (served_in env (recycled heap) site ask (served_null (recycled heap) ask))) (ap (spot env heap) (sym sized.is) ∙ sym none)
    ∙ ap (λ o. option_map_or (served_at env (recycled heap) site ask) o (served_null (recycled heap) ask)) (ap (spot env (recycled heap)) (sym sized.is) ∙ ap (λ h. spot env h size) (sym emptied) ∙ sym is)
    ∙ ap (λ b. with_marks ask at b (with_block (recycled heap) (live_block at (bytes_asked ask) (treatment_of env).side site))) (sym zeroes)
    ∙ ap (λ n. with_marks ask at zeroed (with_block (recycled heap) (live_block at n (treatment_of env).side site))) (sym sized.is)
    ∙ ap (λ h. with_marks ask at zeroed (with_block h (live_block at size (treatment_of env).side site))) (sym emptied)
    ∙ ap (with_marks ask at zeroed) (sym new)

pub block-null : (env : Env) (heap left after : Heap) (site : Site) (ask : Ask) (size : ℕ) → IsSized ask size → None ≡ spot env heap size → left ≡ recycled heap → None ≡ spot env left size → after ≡ left → served_block env heap site ask ≡ with_marks ask 0 false after
block-null env heap left after site ask size sized none emptied again new =
    block-few env heap site ask (few-bytes ask size sized)
    ∙ ap (λ o. option_map_or (served_at env heap site ask) o (served_in env (recycled heap) site ask (served_null (recycled heap) ask))) (ap (spot env heap) (sym sized.is) ∙ sym none)
    ∙ ap (λ o. option_map_or (served_at env (recycled heap) site ask) o (served_null (recycled heap) ask)) (ap (spot env (recycled heap)) (sym sized.is) ∙ ap (λ h. spot env h size) (sym emptied) ∙ sym again)
    ∙ ap (with_marks ask 0 false) (sym emptied ∙ sym new)

-- what the code makes of a new block in place of an old one
abbrev with_carried : Choice → ℕ → Heap → Served
with_carried choice carried heap = record { choice = record choice { carried = carried }; heap = heap }

pub in_place-null : (env : Env) (heap after : Heap) (site : Site) (ask : Ask) (old size : ℕ) (choice : Choice) → served_block env heap site ask ≡ record { choice = choice; heap = after } → choice.at ≡ 0
    → in_place_of env heap site old size (served_block env heap site ask) ≡ record { choice = choice; heap = after }
in_place-null env heap after site ask old size choice is null =
    let served : Served = record { choice = choice; heap = after } in
    ap (in_place_of env heap site old size) is ∙ ap (λ b. if b then served else with_carried choice (carried_over env heap old size) (freed env after site old)) (eq-eqb choice.at 0 null)

pub in_place-some : (env : Env) (heap after last : Heap) (site : Site) (ask : Ask) (old size carried : ℕ) (choice : Choice) → served_block env heap site ask ≡ record { choice = choice; heap = after } → (choice.at ≡ 0 → ⊥)
    → carried ≡ carried_over env heap old size → last ≡ freed env after site old → in_place_of env heap site old size (served_block env heap site ask) ≡ record { choice = record choice { carried = carried }; heap = last }
in_place-some env heap after last site ask old size carried choice is some carried_is last_is =
    let served : Served = record { choice = choice; heap = after } in
    ap (in_place_of env heap site old size) is
    ∙ ap (λ b. if b then served else with_carried choice (carried_over env heap old size) (freed env after site old)) (ne_eqb choice.at 0 some)
    ∙ ap (λ n. with_carried choice n (freed env after site old)) (sym carried_is)
    ∙ ap (with_carried choice carried) (sym last_is)
