-- An answer of the allocator is used, or can't be.
use Rattle.std.specs.List.{list_all}
use Rattle.run_history.specs.declared.answer.Answer.TheVariants as answer
use Rattle.replay.proofs.Terms.{Bool, List, Option, Some, [], ap, arith, cond, drop, false, filter, inl, inr, length, length-append, map, not, refl, subst, sym, take, true, ℕ, ◌++◌, ◌∙◌, ◌∷◌, ◌≡◌, take-append_seam, and_parts, both_ways, eqb-false, ltb-false, nat_lt, option_to_list, slice_get, ◌&&◌, ◌==◌, ◌||◌, Told, pieces_in, Seen, Block, Ask, Choice, is_allowed, live_blocks, is_bare, most_blocks, Image, allocated_keeps, Machine, Guest, IsLaidOut, chosen_standing, is_usable, Standing, items_in, Line, Recorded, IsOfLine, IsReplay, IsUnusable, Unanswered, bounds_of, choice_by, AreOpen, AreOpenThen, IsBetween, IsWanting, IsWholeEnd, Stage, replay_of}
use Rattle.replay.specs.Giving as giving
use Rattle.replay.proofs.LineLemmas.{by_is_of}
use Rattle.replay.proofs.ReplayLemmas.{replay_chooses}

-- in a bare heap as many blocks are live as stand
live_all : (blocks : List Block) → list_all (λ block. (block.side == 0) && not block.delayed) blocks ≡ true → length (live_blocks blocks) ≡ length blocks
live_all [] bare = refl
live_all (block ∷ blocks) bare =
    let parts = and_parts ((block.side == 0) && not block.delayed) (list_all (λ (b : Block). (b.side == 0) && not b.delayed) blocks) bare in
    by (not block.delayed) (and_parts (block.side == 0) (not block.delayed) parts.0).1 (live_all blocks parts.1)
  where
    by : (b : Bool) → b ≡ true → length (live_blocks blocks) ≡ length blocks
        → length {A = ℕ × ℕ} (map (λ (x : Block). (x.at, x.size)) (cond b (block ∷ filter (λ (x : Block). not x.delayed) blocks) (filter (λ (x : Block). not x.delayed) blocks))) ≡ length (block ∷ blocks)
    by true is ih = omega (arith, ih)
    by false is ih = absurd (cc)

-- what was kept last is dropped again
pub dropped : (before after : List Choice) (choice : Choice) {all : List Choice} {last : Option Choice} {one : Choice} → all ≡ before ++ choice ∷ [] → all ≡ after ++ option_to_list last → last ≡ Some one → after ≡ before
dropped before after choice {one = one} kept left is =
    let same : after ++ one ∷ [] ≡ before ++ choice ∷ [] = ap (λ (o : Option Choice). after ++ option_to_list o) (sym is) ∙ sym left ∙ kept in
    let many : length after ≡ length before = omega (arith, ap length same, length-append after (one ∷ []), length-append before (choice ∷ [])) in
    sym (take-append_seam after (one ∷ [])) ∙ ap (take (length after)) same ∙ ap (λ (n : ℕ). take n (before ++ choice ∷ [])) many ∙ take-append_seam before (choice ∷ [])

-- an answer that can't be used, by the machine
unusable_by : (allowed null room : Bool) (line : Line) (m : Machine) (ask : Ask) {n : ℕ} → is_allowed m.heap_start m.heap_end m.blocks ask (choice_by ask line) ≡ allowed → line.at == 0 ≡ null → nat_lt n most_blocks ≡ room → length m.blocks ≡ n
    → (allowed && (null || room)) ≡ false → IsUnusable m ask (Some line)
unusable_by false null room line m ask a z r same is = inl a
unusable_by true true room line m ask a z r same is = absurd (cc)
unusable_by true false true line m ask a z r same is = absurd (cc)
unusable_by true false false line m ask {n = n} a z r same is = inr (eqb-false line.at 0 z, omega (arith, ltb-false n most_blocks r, same))

-- C allows an answer by the heap exactly where it does by the machine
allowed_same : (guest : Guest) (ask : Ask) (choice : Choice) → IsLaidOut guest
    → is_allowed guest.machine.heap_start guest.machine.heap_end guest.machine.blocks ask choice ≡ is_allowed guest.heap.start guest.heap.end (live_blocks guest.heap.blocks) ask choice
allowed_same guest ask choice laid_out = λ i. is_allowed (laid_out.start i) (laid_out.end i) (laid_out.live i) ask choice

unusable_told : (s : Standing) (ask : Ask) (line : Line) → IsLaidOut s.guest → is_bare s.guest.heap ≡ true → is_usable s ask (choice_by ask line) ≡ false → IsUnusable s.guest.machine ask (Some line)
unusable_told s ask line laid_out bare is =
    unusable_by (is_allowed s.guest.heap.start s.guest.heap.end (live_blocks s.guest.heap.blocks) ask (choice_by ask line)) (line.at == 0) (nat_lt (length s.guest.heap.blocks) most_blocks)
    line s.guest.machine ask (allowed_same s.guest ask (choice_by ask line) laid_out) refl refl
    (ap length laid_out.live ∙ live_all s.guest.heap.blocks bare) is

pub unusable : (s : Standing) (ask : Ask) (line : Line) (choice : Choice) → IsLaidOut s.guest → is_bare s.guest.heap ≡ true → choice ≡ choice_by ask line → is_usable s ask choice ≡ false → IsUnusable s.guest.machine ask (Some line)
unusable s ask line choice laid_out bare told is = unusable_told s ask line laid_out bare (subst (λ (c : Choice). is_usable s ask c ≡ false) told is)

pub usable_allowed : (s : Standing) (ask : Ask) (choice : Choice) → IsLaidOut s.guest → is_usable s ask choice ≡ true → is_allowed s.guest.machine.heap_start s.guest.machine.heap_end s.guest.machine.blocks ask choice ≡ true
usable_allowed s ask choice laid_out is =
    allowed_same s.guest ask choice laid_out
    ∙ (and_parts (is_allowed s.guest.heap.start s.guest.heap.end (live_blocks s.guest.heap.blocks) ask choice) ((choice.at == 0) || nat_lt (length s.guest.heap.blocks) most_blocks) is).0

module _ {image : Image} {recording : Recorded} {began : Told} {seen : Seen} {ask : Ask} {stage : Stage} where
  -- a replay that has no answer to use ends there
  pub no_choice : seen.takes ≡ true → IsWanting image recording began seen ask stage → IsUnusable stage.live.guest.machine ask (slice_get recording.lines stage.live.guest.machine.allocations)
      → IsWholeEnd image recording began seen stage (answer.Mismatch stage.live.steps)
  no_choice still wanting none =
      let playing = wanting.between.playing in
      let used = playing.base.is.ran.used in
      record {
        entries = playing.entries;
        sends = playing.sends;
        tells = playing.base.tells;
        asked = playing.base.asked;
        is = playing.base.is;
        ends = (
          refl,
          Unanswered ask wanting.shorter wanting.between.lives wanting.wants (subst (λ (n : ℕ). IsUnusable stage.live.guest.machine ask (slice_get recording.lines n)) used none),
          playing.given,
          λ ended. absurd (playing.base.goes_on ended),
        );
        failed = λ no. absurd (both_ways seen.takes no still);
        given = playing.given;
      }

  -- nor one that has no memory for it
  pub no_room : seen.takes ≡ true → IsWanting image recording began seen ask stage → IsWholeEnd image recording began seen stage answer.Memory
  no_room still wanting =
      let playing = wanting.between.playing in
      record {
        entries = playing.entries;
        sends = playing.sends;
        tells = playing.base.tells;
        asked = playing.base.asked;
        is = playing.base.is;
        ends = giving.All playing.sends (pieces_in playing.entries) playing.given;
        failed = λ no. absurd (both_ways seen.takes no still);
        given = playing.given;
      }

  -- one that has goes on
  pub with_choice : {later : Standing} {line : Line} {choice : Choice} → IsWanting image recording began seen ask stage → IsLaidOut stage.live.guest → slice_get recording.lines stage.live.guest.machine.allocations ≡ Some line
      → choice ≡ choice_by ask line → is_usable stage.live ask choice ≡ true → later ≡ chosen_standing choice stage.live → is_bare later.guest.heap ≡ true
      → IsBetween image recording began seen (record stage { live = later; choices = stage.choices ++ choice ∷ [] })
  with_choice {later = later} {line = line} {choice = choice} wanting laid_out here told usable is bare =
      let playing = wanting.between.playing in
      let keeps = allocated_keeps choice stage.live.guest.machine in
      let taken : later.guest.machine.taken ≡ stage.live.guest.machine.taken = ap (λ (s : Standing). s.guest.machine.taken) is ∙ keeps.taken in
      let connections : later.guest.machine.connections ≡ stage.live.guest.machine.connections = ap (λ (s : Standing). s.guest.machine.connections) is ∙ keeps.connections in
      record {
        playing = record {
          entries = playing.entries;
          sends = playing.sends;
          base = record {
            tells = playing.base.tells;
            asked = playing.base.asked;
            is = subst (λ (s : Standing). IsReplay image recording playing.entries (replay_of (stage.choices ++ choice ∷ []) playing.sends s)) (sym is)
                (replay_chooses stage.live wanting.between.lives wanting.shorter wanting.wants here (subst (IsOfLine line) (sym told) (by_is_of ask line))
                (usable_allowed stage.live ask choice laid_out usable) playing.base.is);
            items = playing.base.items;
            goes_on = playing.base.goes_on;
            first = playing.base.first;
            events = playing.base.events;
            phases_are = playing.base.phases_are;
            gone = playing.base.gone;
            places = playing.base.places;
            taken = omega (arith, playing.base.taken, taken);
            connected = subst (λ (n : ℕ). AreOpenThen seen.phases (drop n (items_in (bounds_of recording) playing.entries)) later.guest.machine.connections) (sym taken)
                (subst (λ (connections : List Bool). AreOpenThen seen.phases (drop stage.live.guest.machine.taken (items_in (bounds_of recording) playing.entries)) connections) (sym connections) playing.base.connected);
            bare = bare;
          };
          given = playing.given;
        };
        opened = subst (AreOpen seen.phases) (sym connections) wanting.between.opened;
        lives = ap (λ (s : Standing). s.ended) is ∙ wanting.between.lives;
      }
