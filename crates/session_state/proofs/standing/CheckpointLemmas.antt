-- The checkpoints of a session beside its story, as its survivor goes on.
use Rattle.session_state.proofs.Terms.{List, [], ap, arith, inl, inr, subst, sym, ℕ, ◌+◌, ◌<◌, ◌∙◌, ◌≡◌, ◌≤◌, ◌⊎◌, Item, Env, Log, Image, AsksFor, Limits, Override, Path, Served, CpuState, live_of, with_live, Writes, items_in, Rules, gone_on, past_request, in_force_later, ring_beside, ring_on, keeping_by, stands_of, AreBehind, IsInForce, SessionState, HandlesRequests, keeping_of, EndsWithin, KeepsCheckpoints, Story, entries}
use Rattle.session_state.proofs.standing.HeldLemmas.{stands_by}
use Rattle.session_state.proofs.standing.StoryLemmas.{on_story}

-- an environment and a number that are the same
pub in_force_by : {base : Env} {plan : List Override} {taken : ℕ} {env other : Env} {until till : ℕ} → other ≡ env → till ≡ until → IsInForce base plan taken env until → IsInForce base plan taken other till
in_force_by {base = base} {plan = plan} {taken = taken} {env = env} {till = till} same still is = subst (λ (e : Env). IsInForce base plan taken e till) (sym same) (subst (λ n. IsInForce base plan taken env n) (sym still) is)

-- a run past a failure goes on past it; one that stands at it, at its request, takes the item
pub past_on : {limits : Limits} {items : List Item} {plan : List Override} {now to : Path} {until till : ℕ} → Served limits items plan now to → now.state.machine.taken ≤ to.state.machine.taken → till ≡ until
    → EndsWithin limits until now → EndsWithin limits till to
past_on served more same (inl past) = inl (omega (arith, past, more, same))
past_on {limits = limits} {items = items} {plan = plan} {now = now} {to = to} {until = until} {till = till} served more same (inr there) =
    elim (past_request limits items plan now to there.1 served) [
      | inl stays ↦ subst (λ (p : Path). EndsWithin limits till p) stays (inr (same ∙ there.0, there.1))
      | inr later ↦ inl (let is : until ≡ now.state.machine.taken + limits.keep = there.0 in omega (arith, is, later, same))
    ]

module _ {R : Type 0} where
  -- all but the live state of the guest, the replies, the counts and the answers of the allocator that aren't noted is the same
  pub record HasSameSide (old new : SessionState R) : Type 0 where
    pub recorded : new.recorded ≡ old.recorded
    pub log : new.log ≡ old.log
    pub events : new.events ≡ old.events
    pub cpu : new.cpu ≡ with_live (live_of new.cpu) old.cpu
    pub env : new.env ≡ old.env
    pub until : new.until ≡ old.until
    pub options : new.options ≡ old.options

  side_keeping : {old new : SessionState R} → HasSameSide old new → keeping_of new ≡ keeping_of old
  side_keeping side = λ i. keeping_by (side.options i).every (side.cpu i).slots

  -- the survivor goes on: its checkpoints stay, and its environment
  pub saved_on : {rules : Rules} {image : Image} {story : Story} {old new : SessionState R} {to : Path} → HasSameSide old new → new.replies.first ≡ old.replies.first → Served rules.limits (items_in rules.bounds (entries story)) story.survivor.plan story.survivor.now to
      → Writes rules.limits (items_in rules.bounds (entries story)) old.cpu.base story.survivor.now old.cpu.written to new.cpu.written
      → story.survivor.now.state.machine.taken ≤ to.state.machine.taken → HandlesRequests rules image (keeping_of old) story.earlier (entries story) story.recoveries (gone_on story.survivor to) (stands_of old.cpu.slots.saved) → KeepsCheckpoints rules image story old → KeepsCheckpoints rules image (on_story story to) new
  saved_on {rules = rules} {image = image} {story = story} {old = old} {new = new} {to = to} side first served wrote more requests k =
      record {
        paths = k.paths;
        ring = ring_beside (ring_on k.ring (live_of new.cpu) served wrote side.cpu) (ap (λ (l : Log). l.first) side.log) first;
        early = subst (λ n. AreBehind n k.paths) (sym side.recorded) k.early;
        requests =
            stands_by (λ k stands. HandlesRequests rules image k story.earlier (entries story) story.recoveries (gone_on story.survivor to) stands) old new (ap (λ (cpu : CpuState R). cpu.slots.saved) side.cpu)
            (side_keeping side) requests;
        in_force = in_force_by side.env side.until (in_force_later rules.limits.base story.survivor.plan story.survivor.now.state.machine.taken to.state.machine.taken old.env old.until more k.in_force);
      }
