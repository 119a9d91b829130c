-- Wherever a session's run was answered with a block, fewer blocks were live than may be. So what the session knows of it is a record.
use Rattle.std.proofs.lemmas.List.Sums.{length-filter, count_by-le-length}
use Rattle.alloc_env.specs.declared.env.Env.{Env}
use Rattle.alloc_env.specs.Serving.{Served, carried_over, freed, in_place_of, served_ask, served_block, served_over}
use Rattle.alloc_env.proofs.Mallocs.{Places, block-places}
use Rattle.guest_image.specs.Image.{heap_start, heap_end}
use Rattle.run_history.proofs.Layouts.{laid_out_next}
use Rattle.guest_cpu.proofs.StartLemmas.{heap_above_null, heap_ordered}
use Rattle.replay.proofs.Terms.{Bool, List, None, Option, Some, [], ap, arith, cond, false, filter, length, not, refl, subst, suc, sym, true, zero, ℕ, ◌++◌, ◌+◌, ◌-◌, ◌<◌, ◌∙◌, ◌∷◌, ◌≡◌, ◌≢◌, ◌≤◌, ne_eqb, length-map, none-some, option_and_then_some, same_Some, nat_lt, slice_get, ◌==◌, Item, Block, Ask, Choice, Site, bytes_asked, insert_live, live_blocks, replaced, Heap, IsHeap, empty_heap, is_live_at, most_blocks, Image, repeated_add, element_behind, run_chosen, slice_get_longer, ServesTo, map_some, served_follows, serves_to, serves_used, Chooses, State, start, start_machine, repeated, Run, after, does, run, Allocate, Free, Grant, IsLaidOut, Limits, Nothing, Override, Path, Request, env_at, grant, granted, guest_of, listed, origin, planned_next, request_of, serve, site_of, instruction_at, IsAccount, Session, journal_of, items_in, Rules, Recorded, HasRoom, HasSession, IsRecordOf}
use Rattle.replay.proofs.LineLemmas.{as_many, of_own}
use Rattle.replay.proofs.ReplayLemmas.{wants_chooses}

-- the empty heap of an image is one
begins_empty : (image : Image) → IsHeap (empty_heap (heap_start image) (heap_end image))
begins_empty image =
    let least = image.in_window.least in
    let whole = image.in_window.whole in
    record {
      start_multiple = omega arith;
      end_multiple = omega arith;
      above_null = heap_above_null image;
      ordered = heap_ordered image;
      standing = heap_ordered image;
      few = omega arith;
    }

-- and its guest is laid out so at the start
begins_laid_out : (image : Image) → IsLaidOut (guest_of (origin image))
unfolding start start_machine
begins_laid_out image = record { sound = begins_empty image; start = refl; end = refl; live = refl }

-- each instruction of a served run keeps the layout, so all of them do
laid_out_behind : (limits : Limits) (items : List Item) (plan : List Override) (first : Path) {second : Path} (count : ℕ) → IsLaidOut (guest_of first) → serve limits items plan first count ≡ Some second → IsLaidOut (guest_of second)
laid_out_behind limits items plan first {second = second} zero out ran = subst (λ (p : Path). IsLaidOut (guest_of p)) (same_Some first second ran) out
laid_out_behind limits items plan first {second = second} (suc count) out ran =
    option_and_then_some (planned_next limits items plan) (serve limits items plan first count) second ran (λ mid before goes.
    let env = env_at limits.base plan mid.state.machine.taken in
    laid_out_next limits items env mid second (laid_out_behind limits items plan first count out before) (serves_to limits items env mid second goes))

-- no more blocks are live than stand
live_fewer : (blocks : List Block) → length (live_blocks blocks) ≤ length blocks
live_fewer blocks =
    let is_live : Block → Bool = λ (block : Block). not block.delayed in
    let place : Block → ℕ × ℕ = λ (block : Block). (block.at, block.size) in
    omega (arith, length-map (filter is_live blocks) place ∙ length-filter is_live blocks, count_by-le-length is_live blocks)

-- a block more is live
length-insert_live : (new : ℕ × ℕ) (live : List (ℕ × ℕ)) → length (insert_live new live) ≡ length live + 1
length-insert_live new [] = refl
length-insert_live new (block ∷ blocks) = of (nat_lt new.0 block.0) (length-insert_live new blocks)
  where
    of : (b : Bool) → length (insert_live new blocks) ≡ length blocks + 1 → length (cond b (new ∷ (block ∷ blocks)) (block ∷ insert_live new blocks)) ≡ length (block ∷ blocks) + 1
    of true more = omega arith
    of false more = omega (arith, more)

-- an environment that answers with a block had room for one more live block
block_room : (env : Env) (heap : Heap) (site : Site) (ask : Ask) (served : Served) → IsHeap heap → served_block env heap site ask ≡ served → served.choice.at ≢ 0 → length (live_blocks heap.blocks) < most_blocks
block_room env heap site ask served sound is some =
    let places = subst (Places env heap ask) is (block-places env heap site ask sound) in
    let live = live_blocks heap.blocks in
    let new : ℕ × ℕ = (served.choice.at, bytes_asked served.choice.ask) in
    let more : length (live_blocks served.heap.blocks) ≡ length live + 1 =
    ap length (places.live ∙ ap (λ (b : Bool). cond b live (insert_live new live)) (ne_eqb served.choice.at 0 some)) ∙ length-insert_live new live in
    let fewer = live_fewer served.heap.blocks in
    let few = places.sound.few in
    omega (arith, more, fewer, few)

-- what is carried to it, and what is freed behind it, leaves its address
in_place_at : (b : Bool) (served : Served) (carried : ℕ) (heap : Heap) → (cond b served (record { choice = record served.choice { carried = carried }; heap = heap })).choice.at ≡ served.choice.at
in_place_at true served carried heap = refl
in_place_at false served carried heap = refl

served_room : (env : Env) (heap : Heap) (site : Site) (ask : Ask) (served : Served) → IsHeap heap → served_ask env heap site ask ≡ Some served → served.choice.at ≢ 0 → length (live_blocks heap.blocks) < most_blocks
unfolding served_ask
served_room env heap site ask served sound is some = of_replaced (replaced ask) is
  where
    block : Served
    block = served_block env heap site ask

    of_choice : (other : Served) → other ≡ served → other.choice.at ≡ (served_block env heap site ask).choice.at → length (live_blocks heap.blocks) < most_blocks
    of_choice other same chosen =
        block_room env heap site ask (served_block env heap site ask) sound refl
        (λ null. some (sym (ap (λ (s : Served). s.choice.at) same) ∙ chosen ∙ null))

    over : (old : ℕ) (b : Bool) → cond b (Some (in_place_of env heap site old (bytes_asked ask) (served_block env heap site ask))) None ≡ Some served → length (live_blocks heap.blocks) < most_blocks
    over old true h =
        of_choice (in_place_of env heap site old (bytes_asked ask) (served_block env heap site ask)) (same_Some _ served h)
        (in_place_at ((served_block env heap site ask).choice.at == 0) (served_block env heap site ask) (carried_over env heap old (bytes_asked ask)) (freed env (served_block env heap site ask).heap site old))
    over old false h = absurd (none-some served h)

    of_replaced : (old : Option ℕ) → served_over env heap site ask old ≡ Some served → length (live_blocks heap.blocks) < most_blocks
    of_replaced None h = of_choice (served_block env heap site ask) (same_Some _ served h) refl
    of_replaced (Some old) h = over old (is_live_at heap old) h

-- the answer with which an instruction of a served run goes on that wants one
record IsServed (path to : Path) (ask : Ask) : Type 0 where
  choice : Choice
  chose : to.choices ≡ path.choices ++ choice ∷ []
  room : choice.at ≢ 0 → length path.state.machine.blocks < most_blocks

wants_served : (limits : Limits) (items : List Item) (env : Env) (path to : Path) {ask : Ask} → IsLaidOut (guest_of path) → ServesTo limits items env path to → does None None path.state.machine ≡ Chooses ask → IsServed path to ask
unfolding grant
wants_served limits items env path to {ask = ask} out parts wants = of_request (request_of (instruction_at path.state.machine) path.state.machine) parts.granted_by
  where
    unchosen_not : parts.given.chosen ≡ None → ⊥
    unchosen_not none =
        let goes : after path.state (does (slice_get items path.state.machine.taken) None path.state.machine) ≡ Some to.state =
        ap (λ (c : Option Choice). after path.state (does (slice_get items path.state.machine.taken) c path.state.machine)) (sym none) ∙ parts.goes in
        none-some to.state (ap (after path.state) (sym (wants_chooses path.state.machine wants (slice_get items path.state.machine.taken) None)) ∙ goes)

    of_request : (request : Request) → granted env path.heap (site_of path.state.machine) request ≡ Some parts.given → IsServed path to ask
    of_request Nothing given = absurd (unchosen_not (sym (ap (λ (g : Grant). g.chosen) (same_Some _ parts.given given))))
    of_request (Free at) given =
        let found = map_some _ _ parts.given given in
        absurd (unchosen_not (sym (ap (λ (g : Grant). g.chosen) found.2)))
    of_request (Allocate asked) given =
        let found = map_some _ _ parts.given given in
        let served : Served = found.0 in
        let chosen : parts.given.chosen ≡ Some served.choice = sym (ap (λ (g : Grant). g.chosen) found.2) in
        record {
          choice = served.choice;
          chose = parts.choices ∙ ap (λ (c : Option Choice). path.choices ++ listed c) chosen;
          room = λ some. let room = served_room env path.heap (site_of path.state.machine) asked served out.sound found.1 some in let live = ap length out.live in omega (arith, room, live);
        }

-- of so many steps there is the first, and the others
first_of_steps : {X : Type 0} (step : X → Option X) (count : ℕ) (x y : X) → 0 < count → repeated step count x ≡ Some y → (next : X) × (rest : ℕ) × (step x ≡ Some next) × (repeated step rest next ≡ Some y)
first_of_steps step zero x y some ran = absurd (omega (arith, some))
first_of_steps step (suc count) x y some ran =
    let one_more : suc count ≡ 1 + count = omega arith in
    option_and_then_some (λ z. repeated step count z) (step x) y (sym (repeated_add step x 1 count) ∙ ap (λ (n : ℕ). repeated step n x) (sym one_more) ∙ ran) (λ z here rest. (z, count, here, rest))

-- a served run has room wherever it was answered with a block
pub served_has_room : (limits : Limits) (image : Image) (items : List Item) (plan : List Override) {path : Path} {count : ℕ} → serve limits items plan (origin image) count ≡ Some path → HasRoom image items path.choices count
unfolding start start_machine
served_has_room limits image items plan {path = path} {count = count} ran earlier state ask choice low reached wants here some =
    let rest = count - earlier in
    let parts : count ≡ earlier + rest = omega (arith, low) in
    let later : 0 < rest = omega (arith, low) in
    let split = sym (repeated_add (planned_next limits items plan) (origin image) earlier rest) ∙ ap (λ (n : ℕ). serve limits items plan (origin image) n) (sym parts) ∙ ran in
    option_and_then_some (λ (p : Path). serve limits items plan p rest) (serve limits items plan (origin image) earlier) path split (λ mid before behind.
    let steps = first_of_steps (planned_next limits items plan) rest mid path later behind in
    let env = env_at limits.base plan mid.state.machine.taken in
    let first = served_follows limits items plan (origin image) mid earlier refl before in
    let step = serves_to limits items env mid steps.0 steps.2 in
    let used = serves_used limits items env mid steps.0 first.used step in
    let second = served_follows limits items plan steps.0 path steps.1 used steps.3 in
    let all = served_follows limits items plan mid path rest first.used behind in
    let longer : run items path.choices (start image) earlier ≡ Some mid.state =
    subst (λ (all : List Choice). run items all (start image) earlier ≡ Some mid.state) (sym all.chose) (run_chosen items mid.choices all.others (start image) mid.state earlier first.ran) in
    let same : state ≡ mid.state = same_Some state mid.state (sym reached ∙ longer) in
    let served = wants_served limits items env mid steps.0 (laid_out_behind limits items plan (origin image) earlier (begins_laid_out image) before) step (subst (λ (s : State). does None None s.machine ≡ Chooses ask) same wants) in
    let found : slice_get path.choices mid.state.machine.allocations ≡ Some served.choice =
    ap (λ (cs : List Choice). slice_get cs mid.state.machine.allocations) (second.chose ∙ ap (λ (cs : List Choice). cs ++ second.others) served.chose)
    ∙ slice_get_longer (mid.choices ++ served.choice ∷ []) second.others mid.state.machine.allocations served.choice (element_behind mid.choices served.choice mid.state.machine.allocations (sym first.used)) in
    let is : choice ≡ served.choice = same_Some choice served.choice (sym (subst (λ (s : State). slice_get path.choices s.machine.allocations ≡ Some choice) same here) ∙ found) in
    subst (λ (s : State). length s.machine.blocks < most_blocks) (sym same) (served.room (λ null. some (ap (λ (c : Choice). c.at) is ∙ null))))

-- so what a session knows of its run is a record of it
pub session_leaves_record : (rules : Rules) (image : Image) (session : Session) (recording : Recorded) → IsAccount rules image session → HasSession rules session recording
    → IsRecordOf image (items_in rules.bounds (journal_of session)) session.survivor.now.choices session.survivor.now.state recording
unfolding start start_machine
session_leaves_record rules image session recording account has =
    let items = items_in rules.bounds (journal_of session) in
    let now = session.survivor.now in
    let served = account.served in
    let counted : served.more ≡ now.steps = omega (arith, (served_follows rules.limits items session.survivor.plan (origin image) now served.more refl served.ran).counted) in
    let room = served_has_room rules.limits image items session.survivor.plan served.ran in
    record {
      lines = of_own recording.lines now.choices has.lines;
      all = as_many recording.lines now.choices has.lines;
      ran = subst (λ (n : ℕ). Run image items now.choices n now.state) (sym has.steps) account.ran;
      taken = sym has.taken;
      room = subst (λ (n : ℕ). HasRoom image items now.choices n) (counted ∙ sym has.steps) room;
    }
