-- One guest with its checkpoints, after its memory was written.
use Rattle.std.proofs.Common.{Ok}
use Rattle.cow_pages.specs.Writes.{Writes}
use Rattle.ckpt_ring.proofs.Written.{line_writes}
use Rattle.guest_cpu.proofs.Terms.{All, List, None, Option, Some, ap, length, refl, subst, sym, ℕ, ◌+◌, ◌-◌, ◌∙◌, ◌≡◌, same_Some, SameEnds, IsLawful, Pages, IsLine, Line, checkpoints_in, with_reached, written_pages, repeated_one, repeated, Range, GuestPages, IsLawfulSpace, flat, Event, Question, Core, AreCounted, Live, Standing, Turn, live_after, quiet_next, standing, turn_to, with_range, IsSend, Keeps, Lasts, RecordedLasts, Turned, Wrote, IsCpu, cpu_state, live_of, state_in, with_live, Breaks, Lives, Reaches, RecordedLives}
use Rattle.guest_cpu.specs.declared.event.Event.TheVariants as event
use Rattle.guest_cpu.specs.declared.event.Question.TheVariants as question

-- bytes were written into a store
pub record WroteStore (old new : Pages) (line : Line) (at count : ℕ) : Type 1 where
  pub line_is : IsLine new line
  pub flags : written_pages new line ≡ with_reached at count (written_pages old line)
  pub saved : {State : Type 0} (f : ℕ → State) → checkpoints_in f new line.order ≡ checkpoints_in f old line.order

line_written : (old new : Pages) (line : Line) (at : ℕ) (bytes : List ℕ) → IsLawful old → IsLawful new → IsLine old line → Writes old new at bytes → WroteStore old new line at (length bytes)
line_written old new line at bytes lawful after is writes =
    let first = line_writes old new line at bytes lawful after is writes (λ slot. slot) in
    record {
      line_is = first.0;
      flags = first.1;
      saved = λ f. (line_writes old new line at bytes lawful after is writes f).2;
    }

-- what a write leaves of a memory and the line of its saved slots
pub record WroteLine (old new : GuestPages) (line : Line) (written : Option Range) : Type 1 where
  pub base_stays : new.base ≡ old.base
  pub spans_stay : new.spans ≡ old.spans
  pub slots_stay : new.store.slots ≡ old.store.slots
  pub pages_stay : new.store.pages ≡ old.store.pages
  pub frames_stay : new.store.frames ≡ old.store.frames
  pub lawful : IsLawfulSpace new
  pub line_is : IsLine new.store line
  pub flags : written_pages new.store line ≡ with_range old.base written (written_pages old.store line)
  pub saved : {State : Type 0} (f : ℕ → State) → checkpoints_in f new.store line.order ≡ checkpoints_in f old.store line.order

pub wrote_line : (old new : GuestPages) (line : Line) (written : Option Range) → IsLawfulSpace old → IsLine old.store line → Wrote written old new → WroteLine old new line written
wrote_line old new line None lawful is same = subst (λ space. WroteLine old space line None) (sym same) (record {
  base_stays = refl;
  spans_stay = refl;
  slots_stay = refl;
  pages_stay = refl;
  frames_stay = refl;
  lawful = lawful;
  line_is = is;
  flags = refl;
  saved = λ f. refl;
})
wrote_line old new line (Some range) lawful is (bytes, count, puts) =
    let wrote = line_written old.store new.store line (range.at - old.base) bytes lawful.store puts.lawful.store is puts.pages in
    record {
      base_stays = puts.base_stays;
      spans_stay = puts.spans_stay;
      slots_stay = puts.pages.slots;
      pages_stay = puts.pages.pages;
      frames_stay = puts.pages.frames;
      lawful = puts.lawful;
      line_is = wrote.line_is;
      flags = wrote.flags ∙ ap (λ n. with_reached (range.at - old.base) n (written_pages old.store line)) count;
      saved = wrote.saved;
    }

-- what is saved stays
saved_stays : (old new : GuestPages) (saved : List Core) (line : Line) (written : Option Range) → WroteLine old new line written
    → checkpoints_in (state_in new saved) new.store line.order ≡ checkpoints_in (state_in old saved) old.store line.order
saved_stays old new saved line written wrote =
    wrote.saved (state_in new saved) ∙ rw (wrote.base_stays, wrote.spans_stay, wrote.slots_stay) refl

-- the other guests that are saved have the ends of its heap too
pub same_ends : (old new : Core) (saved : List Core) → SameEnds old.book new.book → All (λ (other : Core). SameEnds old.book other.book × AreCounted other.marks) saved → All (λ (other : Core). SameEnds new.book other.book × AreCounted other.marks) saved
same_ends old new saved ends all =
    subst (λ (end : ℕ). All (λ (other : Core). ((other.book.start ≡ new.book.start) × (other.book.end ≡ end)) × AreCounted other.marks) saved) (sym ends.1)
    (subst (λ (start : ℕ). All (λ (other : Core). ((other.book.start ≡ start) × (other.book.end ≡ old.book.end)) × AreCounted other.marks) saved) (sym ends.0) all)

-- a guest after a turn
pub record TurnedCpu {R E : Type 0} (rule : R) (core new : Core) (space new_space : GuestPages) (saved : List Core) (line : Line) (next : Option (Turn E)) (event : Option E) : Type 0 where
  pub turn : Turn E
  pub turns : next ≡ Some turn
  pub event_is : turn.event ≡ event
  pub live : live_of (cpu_state rule new new_space saved line) ≡ live_after space.base (live_of (cpu_state rule core space saved line)) turn
  pub fits : IsCpu new new_space saved line
  pub base_stays : new_space.base ≡ space.base
  pub lawful : IsLawfulSpace new_space
  pub kept : cpu_state rule new new_space saved line ≡ with_live (live_of (cpu_state rule new new_space saved line)) (cpu_state rule core space saved line)

pub turned_cpu : {R E : Type 0} (rule : R) (core new : Core) (space new_space : GuestPages) (saved : List Core) (line : Line) (next : Option (Turn E)) (event : Option E)
    → IsCpu core space saved line → IsLawfulSpace space → Turned next event (standing new (flat new_space)) space new_space → Keeps core new
    → TurnedCpu rule core new space new_space saved line next event
turned_cpu rule core new space new_space saved line next event fits lawful turned keeps =
    let wrote = wrote_line space new_space line turned.written lawful fits.line_is turned.wrote in
    record {
      turn = turn_to event (standing new (flat new_space)) turned.written;
      turns = turned.turns;
      event_is = refl;
      live = rw wrote.flags refl;
      fits = record {
        line_is = wrote.line_is;
        heap = rw (wrote.spans_stay, keeps.ends.0, keeps.ends.1) fits.heap;
        counts = keeps.counted;
        each_slot = rw wrote.slots_stay fits.each_slot;
        same = same_ends core new saved keeps.ends fits.same;
        few = rw wrote.slots_stay fits.few;
      };
      base_stays = wrote.base_stays;
      lawful = wrote.lawful;
      kept = rw (saved_stays space new_space saved line turned.written wrote, wrote.base_stays, wrote.slots_stay, wrote.pages_stay, wrote.frames_stay) refl;
    }

-- a guest with the same rule, the same that is saved and the same line
pub same_cpu : {R : Type 0} (rule other_rule : R) (core : Core) (space : GuestPages) (saved other_saved : List Core) (line other_line : Line) → rule ≡ other_rule → saved ≡ other_saved → line ≡ other_line
    → cpu_state rule core space saved line ≡ cpu_state other_rule core space other_saved other_line
same_cpu rule other_rule core space saved other_saved line other_line one two three = rw (one, two, three) refl

-- a guest on the way to its next event, after some instructions that were none
pub record Goes {R E : Type 0} (next : Standing → Option (Turn E)) (rule : R) (first now : Core) (before space : GuestPages) (saved : List Core) (line : Line) : Type 0 where
  pub count : ℕ
  pub quiet : repeated (quiet_next next before.base) count (live_of (cpu_state rule first before saved line)) ≡ Some (live_of (cpu_state rule now space saved line))
  pub fits : IsCpu now space saved line
  pub lawful : IsLawfulSpace space
  pub base_stays : space.base ≡ before.base
  pub kept : cpu_state rule now space saved line ≡ with_live (live_of (cpu_state rule now space saved line)) (cpu_state rule first before saved line)

pub goes_none : {R E : Type 0} (next : Standing → Option (Turn E)) (rule : R) (core : Core) (space : GuestPages) (saved : List Core) (line : Line) → IsCpu core space saved line → IsLawfulSpace space → Goes next rule core core space space saved line
goes_none next rule core space saved line fits lawful = record { count = 0; quiet = refl; fits = fits; lawful = lawful; base_stays = refl; kept = refl }

-- a turn that is no event
quiet_turn : {E : Type 0} (next : Standing → Option (Turn E)) (base : ℕ) (live : Live) (t : Turn E) → next live.standing ≡ Some t → t.event ≡ None → quiet_next next base live ≡ Some (live_after base live t)
unfolding quiet_next
quiet_turn next base live t turns none = rw (turns, none) refl

-- one more instruction that is no event
pub goes_on : {R E : Type 0} (next : Standing → Option (Turn E)) (rule : R) (first now new : Core) (before space new_space : GuestPages) (saved : List Core) (line : Line)
    → Goes next rule first now before space saved line → Turned (next (standing now (flat space))) None (standing new (flat new_space)) space new_space → Keeps now new
    → Goes next rule first new before new_space saved line
goes_on next rule first now new before space new_space saved line goes turned keeps =
    let t = turned_cpu rule now new space new_space saved line _ None goes.fits goes.lawful turned keeps in
    let quiet = quiet_turn next space.base (live_of (cpu_state rule now space saved line)) t.turn t.turns t.event_is ∙ ap (λ l. Some l) (sym t.live) in
    record {
      count = goes.count + 1;
      quiet = repeated_one (quiet_next next before.base) _ _ _ goes.count goes.quiet
          (subst (λ base. quiet_next next base (live_of (cpu_state rule now space saved line)) ≡ Some (live_of (cpu_state rule new new_space saved line))) goes.base_stays quiet);
      fits = t.fits;
      lawful = t.lawful;
      base_stays = t.base_stays ∙ goes.base_stays;
      kept = t.kept ∙ ap (with_live (live_of (cpu_state rule new new_space saved line))) goes.kept;
    }

-- the event comes
pub reaches : {R E : Type 0} (next : Standing → Option (Turn E)) (rule : R) (first now new : Core) (before space new_space : GuestPages) (saved : List Core) (line : Line) (event : E)
    → Goes next rule first now before space saved line → Turned (next (standing now (flat space))) (Some event) (standing new (flat new_space)) space new_space → Keeps now new
    → Reaches next before.base (live_of (cpu_state rule first before saved line)) event (live_of (cpu_state rule new new_space saved line))
    × (cpu_state rule new new_space saved line ≡ with_live (live_of (cpu_state rule new new_space saved line)) (cpu_state rule first before saved line)) × IsCpu new new_space saved line
reaches next rule first now new before space new_space saved line event goes turned keeps =
    let t = turned_cpu rule now new space new_space saved line _ (Some event) goes.fits goes.lawful turned keeps in (
      record {
        count = goes.count;
        before = live_of (cpu_state rule now space saved line);
        quiet = goes.quiet;
        last = t.turn;
        turns = t.turns;
        is_event = t.event_is;
        left = subst (λ base. live_of (cpu_state rule new new_space saved line) ≡ live_after base (live_of (cpu_state rule now space saved line)) t.turn) goes.base_stays t.live;
      },
      t.kept ∙ ap (with_live (live_of (cpu_state rule new new_space saved line))) goes.kept,
      t.fits,
    )

-- memory runs out at a send
pub breaks : {R E : Type 0} (sends : ℕ → List ℕ → E) (next : Standing → Option (Turn E)) (rule : R) (first now new : Core) (before space new_space : GuestPages) (saved : List Core) (line : Line)
    → Goes next rule first now before space saved line → new ≡ now → new_space ≡ space → IsSend sends (next (standing now (flat space)))
    → Breaks sends next before.base (live_of (cpu_state rule first before saved line)) (live_of (cpu_state rule new new_space saved line))
    × (cpu_state rule new new_space saved line ≡ with_live (live_of (cpu_state rule new new_space saved line)) (cpu_state rule first before saved line)) × IsCpu new new_space saved line
breaks sends next rule first now new before space new_space saved line goes same same_space send =
    rw (same, same_space) (record { count = goes.count; quiet = goes.quiet; at_send = send }, goes.kept, goes.fits)

-- a guest stands elsewhere, and bytes of a range were written
pub moved_cpu : {R : Type 0} (rule : R) (core new : Core) (space new_space : GuestPages) (saved : List Core) (line : Line) (there : Standing) (written : Option Range)
    → IsCpu core space saved line → IsLawfulSpace space → standing new (flat new_space) ≡ there → Wrote written space new_space → Keeps core new
    → (live_of (cpu_state rule new new_space saved line) ≡ record { standing = there; written = with_range space.base written (written_pages space.store line) })
    × (cpu_state rule new new_space saved line ≡ with_live (live_of (cpu_state rule new new_space saved line)) (cpu_state rule core space saved line)) × IsCpu new new_space saved line
moved_cpu rule core new space new_space saved line there written fits lawful state wrote keeps =
    let next : Turn Event = turn_to None (standing new (flat new_space)) written in
    let t = turned_cpu rule core new space new_space saved line (Some next) None fits lawful (record { written = written; turns = refl; wrote = wrote }) keeps in (
      t.live ∙ ap (live_after space.base (live_of (cpu_state rule core space saved line))) (sym (same_Some next t.turn t.turns))
          ∙ ap (λ s. record { standing = s; written = with_range space.base written (written_pages space.store line) }) state,
      t.kept,
      t.fits,
    )

-- a guest that was running runs on, or has ended itself by an exit
pub lives_by : (event : Event) (old new : Option ℕ) → Lasts (Ok (Some event)) old new → old ≡ None → Lives (Ok event) new
lives_by (event.Exits code) old new h lives = h
lives_by event.Asks old new h lives = h ∙ lives
lives_by (event.Emits conn bytes) old new h lives = h ∙ lives
lives_by (event.Chooses choice) old new h lives = h ∙ lives
lives_by (event.Failed cause) old new h lives = h ∙ lives

pub recorded_lives_by : (question : Question) (old new : Option ℕ) → RecordedLasts (Ok (Some question)) old new → old ≡ None → RecordedLives (Ok question) new
recorded_lives_by (question.Exits code) old new h lives = h
recorded_lives_by question.Asks old new h lives = h ∙ lives
recorded_lives_by (question.Emits conn bytes) old new h lives = h ∙ lives
recorded_lives_by (question.Wants ask) old new h lives = h ∙ lives
recorded_lives_by (question.Failed cause) old new h lives = h ∙ lives
recorded_lives_by question.Reached old new h lives = h ∙ lives
