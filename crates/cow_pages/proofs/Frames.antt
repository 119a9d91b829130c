-- Bytes of frames: reading them, writing some, and copying a frame.
use Rattle.std.proofs.lemmas.List.{append_assoc}
use Rattle.cow_pages.proofs.Terms.{List, [], ap, arith, cond, drop, get_or, inl, inr, length, nat_lt, refl, set, subst, suc, sym, take, ℕ, ◌%◌, ◌*◌, ◌++◌, ◌+◌, ◌-◌, ◌/◌, ◌<◌, ◌∙◌, ◌∷◌, ◌≡◌, ◌≤◌, ◌⊎◌, drop-append-add, cases_eq, cases_lt, nat_tests, common_steps, same_number_lists, drop-drop, get_or-append_right, get_or-drop, get_or-set_other, get_or-set_same, get_or-take, get_or_append_left, length-append, length-drop, length-set, length-take-le, set_split, take_at, PAGE, put_at, contents}
use Rattle.cow_pages.proofs.Counting.{AreBelow, below_tail, below_head}

-- no number stands at two places of a list
abbrev pub IsOnce : List ℕ → Type 0
IsOnce xs = (k j : ℕ) → k < length xs → j < length xs → get_or xs k 0 ≡ get_or xs j 0 → k ≡ j

pub length-put_at : (at : ℕ) (bytes xs : List ℕ) → at + length bytes ≤ length xs → length (put_at at bytes xs) ≡ length xs
length-put_at at bytes xs room = grind (arith, common_steps)

pub get_or-put_before : (at : ℕ) (bytes xs : List ℕ) (k : ℕ) → at + length bytes ≤ length xs → k < at → get_or (put_at at bytes xs) k 0 ≡ get_or xs k 0
get_or-put_before at bytes xs k room less = grind (arith, common_steps)

pub get_or-put_inside : (at : ℕ) (bytes xs : List ℕ) (k : ℕ) → at + length bytes ≤ length xs → at ≤ k → k < at + length bytes → get_or (put_at at bytes xs) k 0 ≡ get_or bytes (k - at) 0
get_or-put_inside at bytes xs k room from less = grind (arith, common_steps)

pub get_or-put_behind : (at : ℕ) (bytes xs : List ℕ) (k : ℕ) → at + length bytes ≤ length xs → at + length bytes ≤ k → get_or (put_at at bytes xs) k 0 ≡ get_or xs k 0
get_or-put_behind at bytes xs k room from = grind (arith, common_steps)

-- one byte written
pub set-put_at : (xs : List ℕ) (at byte : ℕ) → at < length xs → set xs at byte ≡ put_at at (byte ∷ []) xs
set-put_at xs at byte less =
    let next : suc at ≡ at + 1 = omega arith in
    set_split xs at byte less ∙ ap (λ n. take at xs ++ byte ∷ drop n xs) next ∙ sym (append_assoc (take at xs) (byte ∷ []) (drop (at + 1) xs))

-- a part written
pub part-put_at : (at : ℕ) (xs bytes : List ℕ) {ys : List ℕ} {count : ℕ} → ys ≡ bytes → count ≡ length bytes → take at xs ++ (ys ++ drop count (drop at xs)) ≡ put_at at bytes xs
part-put_at at xs bytes is size = rw (is, size) (grind (arith, common_steps))

-- two writes, one right behind the other
pub put_at-put_at : (at : ℕ) (first second xs : List ℕ) → at + length first + length second ≤ length xs → put_at (at + length first) second (put_at at first xs) ≡ put_at at (first ++ second) xs
put_at-put_at at first second xs room = grind (arith, append_assoc, drop-append-add, drop-drop, take_at, length-append, length-take-le)

-- the bytes that were written
run-put_at : (at : ℕ) (bytes xs : List ℕ) → at + length bytes ≤ length xs → take (length bytes) (drop at (put_at at bytes xs)) ≡ bytes
run-put_at at bytes xs room = grind (arith, common_steps)

-- what a write leaves at a place that had x
abbrev written : (at : ℕ) (bytes : List ℕ) (x k : ℕ) → ℕ
written at bytes x k = cond (nat_lt k at) x (cond (nat_lt k (at + length bytes)) (get_or bytes (k - at) 0) x)

get_or-put_at : (at : ℕ) (bytes xs : List ℕ) (k : ℕ) → at + length bytes ≤ length xs → get_or (put_at at bytes xs) k 0 ≡ written at bytes (get_or xs k 0) k
get_or-put_at at bytes xs k room = grind (arith, nat_tests, get_or-put_before, get_or-put_inside, get_or-put_behind)

-- the same bytes written elsewhere leave the same there
written-moved : (at from k j : ℕ) (bytes : List ℕ) (x : ℕ) → k + from ≡ j + at → written at bytes x k ≡ written from bytes x j
written-moved at from k j bytes x far = grind (arith, nat_tests)

written-else : (at k : ℕ) (bytes : List ℕ) (x : ℕ) → (k < at) ⊎ (at + length bytes ≤ k) → written at bytes x k ≡ x
written-else at k bytes x apart = grind (arith, nat_tests)

-- a run that shares no byte with a write reads as before it
pub run-put_apart : (at from count : ℕ) (bytes xs : List ℕ) → at + length bytes ≤ length xs → from + count ≤ length xs → (from + count ≤ at) ⊎ (at + length bytes ≤ from) → take count (drop from (put_at at bytes xs)) ≡ take count (drop from xs)
run-put_apart at from count bytes xs room inside apart =
    let long : length (put_at at bytes xs) ≡ length xs = length-put_at at bytes xs room in
    same_number_lists _ _ (grind (arith, length-take-le, length-drop))
    (λ k less. elim apart [ inl before ↦ grind (arith, get_or-take, get_or-drop, get_or-put_before, length-take-le, length-drop) | inr behind ↦ grind (arith, get_or-take, get_or-drop, get_or-put_behind, length-take-le, length-drop) ])

-- the bytes of a frame
abbrev frame : List ℕ → ℕ → List ℕ
frame pool n = take PAGE (drop (PAGE * n) pool)

frame_size : (n : ℕ) (pool : List ℕ) → PAGE * n + PAGE ≤ length pool → length (take PAGE (drop (PAGE * n) pool)) ≡ PAGE
frame_size n pool room = length-take-le PAGE (drop (PAGE * n) pool) (omega (arith, length-drop (PAGE * n) pool))

-- a table of frames that a pool of so many has
pub record AreFrames (frames : ℕ) (pool table : List ℕ) : Type 0 where
  pub size : length pool ≡ PAGE * frames
  pub below : AreBelow frames table

tail_frames : {frames n : ℕ} {pool table : List ℕ} → AreFrames frames pool (n ∷ table) → AreFrames frames pool table
tail_frames f = record { size = f.size; below = below_tail _ _ _ f.below }

pub length-contents : {frames : ℕ} {pool : List ℕ} (table : List ℕ) → AreFrames frames pool table → length (contents pool table) ≡ PAGE * length table
length-contents [] f = refl
length-contents {pool = pool} (n ∷ table) f =
    let frame : length (take PAGE (drop (PAGE * n) pool)) ≡ PAGE = frame_size n pool (omega (arith, f.size, below_head _ n table f.below)) in
    omega (arith, length-append (take PAGE (drop (PAGE * n) pool)) (contents pool table), frame, length-contents table (tail_frames f))

-- a byte of the contents stands in the frame of its page
pub get_or-contents : {frames : ℕ} {pool : List ℕ} (table : List ℕ) (k : ℕ) → AreFrames frames pool table → k < PAGE * length table → get_or (contents pool table) k 0 ≡ get_or pool (PAGE * get_or table (k / PAGE) 0 + k % PAGE) 0
get_or-contents [] k f less = absurd (omega arith)
get_or-contents {pool = pool} (n ∷ table) k f less =
    let frame : length (take PAGE (drop (PAGE * n) pool)) ≡ PAGE = frame_size n pool (omega (arith, f.size, below_head _ n table f.below)) in
    elim (cases_lt k PAGE) [
      | inl here ↦
          (let page : k / PAGE ≡ 0 = omega arith in
          let place : k % PAGE ≡ k = omega arith in
          rw (page, place, get_or_append_left (take PAGE (drop (PAGE * n) pool)) (contents pool table) 0 k (omega arith), get_or-take PAGE (drop (PAGE * n) pool) k 0 here) (get_or-drop (PAGE * n) pool k 0))
      | inr later ↦
          (let page : k / PAGE ≡ suc ((k - PAGE) / PAGE) = omega arith in
          let place : k % PAGE ≡ (k - PAGE) % PAGE = omega arith in
          rw (page, place) (get_or-append_right (take PAGE (drop (PAGE * n) pool)) (contents pool table) PAGE k 0 frame later ∙ get_or-contents table (k - PAGE) (tail_frames f) (omega arith)))
    ]

-- a run within a page stands in the frame of the page
pub run-contents : {frames : ℕ} {pool table : List ℕ} (at count : ℕ) → AreFrames frames pool table → at < PAGE * length table → at % PAGE + count ≤ PAGE → take count (drop at (contents pool table)) ≡ take count (drop (PAGE * get_or table (at / PAGE) 0 + at % PAGE) pool)
run-contents {frames = frames} {pool = pool} {table = table} at count f inside within =
    let number : get_or table (at / PAGE) 0 < frames = f.below (at / PAGE) (omega arith) in
    let from = PAGE * get_or table (at / PAGE) 0 + at % PAGE in
    let whole : length (contents pool table) ≡ PAGE * length table = length-contents table f in
    let one : length (take count (drop at (contents pool table))) ≡ count = length-take-le count (drop at (contents pool table)) (omega (arith, length-drop at (contents pool table))) in
    let other : length (take count (drop from pool)) ≡ count = length-take-le count (drop from pool) (omega (arith, length-drop from pool, f.size)) in
    same_number_lists (take count (drop at (contents pool table))) (take count (drop from pool)) (one ∙ sym other)
    (λ k less.
    let near : k < count = omega arith in
    let same : (at + k) / PAGE ≡ at / PAGE = omega arith in
    let place : PAGE * get_or table (at / PAGE) 0 + (at + k) % PAGE ≡ from + k = omega arith in
    get_or-take count (drop at (contents pool table)) k 0 near
    ∙ get_or-drop at (contents pool table) k 0
    ∙ get_or-contents table (at + k) f (omega arith)
    ∙ ap (λ p. get_or pool (PAGE * get_or table p 0 + (at + k) % PAGE) 0) same
    ∙ ap (λ n. get_or pool n 0) place
    ∙ sym (get_or-take count (drop from pool) k 0 near ∙ get_or-drop from pool k 0))

-- spaces whose frames have the same bytes
contents-same : (pool after numbers others : List ℕ) → length others ≡ length numbers → ((k : ℕ) → k < length numbers → frame after (get_or others k 0) ≡ frame pool (get_or numbers k 0)) → contents after others ≡ contents pool numbers
contents-same pool after [] [] long same = refl
contents-same pool after [] (m ∷ others) long same = absurd (omega arith)
contents-same pool after (n ∷ numbers) [] long same = absurd (omega arith)
contents-same pool after (n ∷ numbers) (m ∷ others) long same =
    ap (λ xs. xs ++ contents after others) (same 0 (omega arith)) ∙ ap (λ xs. frame pool n ++ xs) (contents-same pool after numbers others (omega arith) (λ k less. same (suc k) (omega arith)))

-- another frame than the one that is written
frame-apart : (frames n m at : ℕ) (bytes pool : List ℕ) → length pool ≡ PAGE * frames → n < frames → m < frames → PAGE * n ≤ at → at + length bytes ≤ PAGE * n + PAGE → (m ≡ n → ⊥) → frame (put_at at bytes pool) m ≡ frame pool m
frame-apart frames n m at bytes pool size inside near low high other =
    let apart : (PAGE * m + PAGE ≤ at) ⊎ (at + length bytes ≤ PAGE * m) = elim (cases_lt m n) [ inl before ↦ inl (omega arith) | inr from ↦ inr (omega arith) ] in
    run-put_apart at (PAGE * m) PAGE bytes pool (omega arith) (omega arith) apart

-- a write into a frame that no page has
pub contents-put_apart : {frames : ℕ} {pool table : List ℕ} (n at : ℕ) (bytes : List ℕ) → AreFrames frames pool table → n < frames → PAGE * n ≤ at → at + length bytes ≤ PAGE * n + PAGE → ((k : ℕ) → k < length table → get_or table k 0 ≡ n → ⊥) → contents (put_at at bytes pool) table ≡ contents pool table
contents-put_apart {frames = frames} {pool = pool} {table = table} n at bytes f inside low high apart =
    contents-same pool (put_at at bytes pool) table table refl (λ k less. frame-apart frames n (get_or table k 0) at bytes pool f.size inside (f.below k less) low high (apart k less))

-- a write into the frame of one page
pub contents-put_here : {frames : ℕ} {pool table : List ℕ} (at : ℕ) (bytes : List ℕ) → AreFrames frames pool table → IsOnce table → at < PAGE * length table → at % PAGE + length bytes ≤ PAGE → contents (put_at (PAGE * get_or table (at / PAGE) 0 + at % PAGE) bytes pool) table ≡ put_at at bytes (contents pool table)
contents-put_here {frames = frames} {pool = pool} {table = table} at bytes f once inside within =
    let n = get_or table (at / PAGE) 0 in
    let number : n < frames = f.below (at / PAGE) (omega arith) in
    let from = PAGE * n + at % PAGE in
    let after = put_at from bytes pool in
    let size : length pool ≡ PAGE * frames = f.size in
    let then : AreFrames frames after table = record { size = length-put_at from bytes pool (omega arith) ∙ size; below = f.below } in
    let many : length (contents after table) ≡ PAGE * length table = length-contents table then in
    let whole : length (contents pool table) ≡ PAGE * length table = length-contents table f in
    same_number_lists (contents after table) (put_at at bytes (contents pool table)) (many ∙ sym whole ∙ sym (length-put_at at bytes (contents pool table) (omega arith)))
    (λ k less.
    let near : k < PAGE * length table = omega arith in
    let m = get_or table (k / PAGE) 0 in
    let there : m < frames = f.below (k / PAGE) (omega arith) in
    let x = get_or (contents pool table) k 0 in
    let moved : written from bytes x (PAGE * m + k % PAGE) ≡ written at bytes x k =
    elim (cases_eq (k / PAGE) (at / PAGE)) [
      | inl is ↦ (let m_is : m ≡ n = ap (λ p. get_or table p 0) is in written-moved from at (PAGE * m + k % PAGE) k bytes x (omega arith))
      | inr apart ↦
          (let unlike : m ≡ n → ⊥ = λ e. apart (once (k / PAGE) (at / PAGE) (omega arith) (omega arith) e) in
          let far : (PAGE * m + k % PAGE < from) ⊎ (from + length bytes ≤ PAGE * m + k % PAGE) = elim (cases_lt m n) [ inl before ↦ inl (omega arith) | inr behind ↦ inr (omega arith) ] in
          let clear : (k < at) ⊎ (at + length bytes ≤ k) = elim (cases_lt k at) [ inl before ↦ inl before | inr behind ↦ inr (omega arith) ] in
          written-else from (PAGE * m + k % PAGE) bytes x far ∙ sym (written-else at k bytes x clear))
    ] in
    get_or-contents table k then near
    ∙ get_or-put_at from bytes pool (PAGE * m + k % PAGE) (omega arith)
    ∙ ap (λ y. written from bytes y (PAGE * m + k % PAGE)) (sym (get_or-contents table k f near))
    ∙ moved
    ∙ sym (get_or-put_at at bytes (contents pool table) k (omega arith)))

-- the pool with one frame copied to another
abbrev pub copied : List ℕ → ℕ → ℕ → List ℕ
copied pool from to = put_at (PAGE * to) (frame pool from) pool

pub length-copied : (frames from to : ℕ) (pool : List ℕ) → length pool ≡ PAGE * frames → from < frames → to < frames → length (copied pool from to) ≡ length pool
length-copied frames from to pool size one other = length-put_at (PAGE * to) (frame pool from) pool (omega (arith, frame_size from pool (omega arith)))

pub contents-copied_apart : {frames : ℕ} {pool table : List ℕ} (from to : ℕ) → AreFrames frames pool table → from < frames → to < frames → ((k : ℕ) → k < length table → get_or table k 0 ≡ to → ⊥) → contents (copied pool from to) table ≡ contents pool table
contents-copied_apart {pool = pool} from to f one other apart =
    let many : length (frame pool from) ≡ PAGE = frame_size from pool (omega (arith, f.size)) in
    contents-put_apart to (PAGE * to) (frame pool from) f other (omega arith) (omega arith) apart

-- a page that moves to a copy of its frame has the same bytes there
pub contents-copied : {frames : ℕ} {pool table : List ℕ} (page to : ℕ) → AreFrames frames pool table → page < length table → to < frames → ((k : ℕ) → k < length table → get_or table k 0 ≡ to → ⊥) → contents (copied pool (get_or table page 0) to) (set table page to) ≡ contents pool table
contents-copied {frames = frames} {pool = pool} {table = table} page to f here other apart =
    let from = get_or table page 0 in
    let size : length pool ≡ PAGE * frames = f.size in
    let number : from < frames = f.below page here in
    let many : length (frame pool from) ≡ PAGE = frame_size from pool (omega arith) in
    let new : frame (copied pool from to) to ≡ frame pool from = subst (λ n. take n (drop (PAGE * to) (copied pool from to)) ≡ frame pool from) many (run-put_at (PAGE * to) (frame pool from) pool (omega (arith, many))) in
    contents-same pool (copied pool from to) table (set table page to) (length-set table page to)
    (λ k less.
    elim (cases_eq k page) [
      | inl is ↦ subst (λ p. frame (copied pool from to) (get_or (set table page to) p 0) ≡ frame pool (get_or table p 0)) (sym is) (ap (frame (copied pool from to)) (get_or-set_same table page to 0 here) ∙ new)
      | inr isnt ↦
          (ap (frame (copied pool from to)) (get_or-set_other table page k to 0 isnt)
          ∙ frame-apart frames to (get_or table k 0) (PAGE * to) (frame pool from) pool size other (f.below k less) (omega arith) (omega arith) (apart k less))
    ])
