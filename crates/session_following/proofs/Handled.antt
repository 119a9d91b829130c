-- The requests of a part that is followed: those that were handled so far are those before a session that has just begun there.
use Rattle.guest_cpu.proofs.WritingLemmas.{writes_more}
use Rattle.guest_image.specs.Image.{base}
use Rattle.recovery.specs.Handling.{Stand}
use Rattle.session_following.proofs.Terms.{List, None, Option, Some, [], ap, append-nil, arith, false, inl, inr, length, length-append, refl, subst, sym, ℕ, ◌++◌, ◌+◌, ◌∙◌, ◌∷◌, ◌≡◌, IfSome, replicate, slice_get, Item, Send, Entry, LinkEvent, Image, Override, Path, Served, origin, Writes, served_on, served_same, served_with, events_of, items_in, Rules, Survivor, first_survivor, starting_path, taken_later, AreRinged, AreWritten, HasFollowedRequests, HasHandled, HasWritten, Keeping, first_stands, handle, handled, starting_stands, HandlesRequests, came_before, rules_after}
use Rattle.session_following.proofs.Based.{SaysAs, same_items}

-- requests behind others
handled_append : (keeping : Keeping) (from : ℕ) (later earlier : List ℕ) (stands : List Stand) → handled keeping from (later ++ earlier) stands ≡ handled keeping (from + length earlier) later (handled keeping from earlier stands)
handled_append keeping from [] earlier stands = refl
handled_append keeping from (written ∷ later) earlier stands =
    let many : from + length (later ++ earlier) ≡ (from + length earlier) + length later = omega (arith, length-append later earlier) in
    ap (λ (n : ℕ). handle keeping n written (handled keeping from (later ++ earlier) stands)) many
    ∙ ap (handle keeping ((from + length earlier) + length later) written) (handled_append keeping from later earlier stands)

if_some : (o : Option Stand) (P Q : Stand → Type 0) → ((one : Stand) → P one → Q one) → IfSome o P → IfSome o Q
if_some None P Q so holds = tt
if_some (Some one) P Q so holds = so one holds

-- Under the other plan, beside a session that has just begun, as many pages were written.
pub record WroteAs (rules : Rules) (image : Image) (entries : List Entry) (survivor : Survivor) (others : Rules) (other : Survivor) : Type 0 where
  pub each : (pages from to count : ℕ) → HasWritten rules image entries survivor pages from to count → HasWritten others image [] other pages from to count

-- all of some requests, and of those behind them
pub all_wrote : {rules others : Rules} {image : Image} {entries : List Entry} {survivor other : Survivor} (keeping : Keeping) (from : ℕ) (written : List ℕ) (stands : List Stand) → WroteAs rules image entries survivor others other
    → AreWritten rules image entries survivor keeping from written stands → AreWritten others image [] other keeping from written stands
all_wrote keeping from [] stands so are = tt
all_wrote {rules = rules} {others = others} {image = image} {entries = entries} {survivor = survivor} {other = other} keeping from (written ∷ earlier) stands so are = (
  if_some (slice_get (handled keeping from earlier stands) 0) (λ newest. HasWritten rules image entries survivor keeping.pages newest.state (from + length earlier) written)
      (λ newest. HasWritten others image [] other keeping.pages newest.state (from + length earlier) written) (λ newest one. so.each keeping.pages newest.state (from + length earlier) written one) are.0,
  all_wrote keeping from earlier stands so are.1,
)

both_written : (rules : Rules) (image : Image) (survivor : Survivor) (keeping : Keeping) (from : ℕ) (later earlier : List ℕ) (stands : List Stand) → AreWritten rules image [] survivor keeping from earlier stands
    → AreWritten rules image [] survivor keeping (from + length earlier) later (handled keeping from earlier stands) → AreWritten rules image [] survivor keeping from (later ++ earlier) stands
both_written rules image survivor keeping from [] earlier stands are more = are
both_written rules image survivor keeping from (written ∷ later) earlier stands are more =
    let many : (from + length earlier) + length later ≡ from + length (later ++ earlier) = omega (arith, length-append later earlier) in (
      subst (λ (list : List Stand). IfSome (slice_get list 0) (λ newest. HasWritten rules image [] survivor keeping.pages newest.state (from + length (later ++ earlier)) written)) (sym (handled_append keeping from later earlier stands))
          (subst (λ (n : ℕ). IfSome (slice_get (handled keeping (from + length earlier) later (handled keeping from earlier stands)) 0) (λ newest. HasWritten rules image [] survivor keeping.pages newest.state n written)) many more.0),
      both_written rules image survivor keeping from later earlier stands are more.1,
    )

-- A survivor under a plan that says the same up to where another one stands, on the first items: how it wrote is how one does that has just begun there.
wrote_as : (rules : Rules) (image : Image) (before entries : List Entry) (more : List Item) (survivor : Survivor) (events : List LinkEvent) (had : List Send) (plan other : List Override) (now : Path) → events ≡ events_of rules.bounds entries → survivor.plan ≡ plan
    → items_in rules.bounds entries ≡ items_in rules.bounds before ++ more → SaysAs rules image (items_in rules.bounds entries) plan other now → Served rules.limits (items_in rules.bounds entries) plan survivor.now now
    → WroteAs rules image before survivor (rules_after rules (came_before events had other now)) (record { plan = other; begun = now; now = now })
wrote_as rules image before entries more survivor events had plan other now same plan_is grown says on = record {
  each = λ pages from to count w.
      let items : List Item = items_in rules.bounds entries in
      let here : List Item = items_in (rules_after rules (came_before events had other now)).bounds [] in
      let same_its : items ≡ here = sym (same_items rules entries (came_before events had other now) same) in
      let with_more : (x y : Path) → Served rules.limits (items_in rules.bounds before) survivor.plan x y → Served rules.limits items plan x y =
      λ x y ran.
      subst (λ (its : List Item). Served rules.limits its plan x y) (sym grown)
      (subst (λ (p : List Override). Served rules.limits (items_in rules.bounds before ++ more) p x y) plan_is (served_with rules.limits (items_in rules.bounds before) more survivor.plan x y ran)) in
      let begins : Served rules.limits items plan (origin image) w.checkpoint = with_more (origin image) w.checkpoint w.begins in
      let goes : Served rules.limits items plan w.checkpoint w.request = with_more w.checkpoint w.request w.goes in
      let later : Served rules.limits items plan w.request now = served_on rules.limits items plan w.request survivor.now now (with_more w.request survivor.now w.later) on in
      let under : (x y : Path) → Served rules.limits items other x y → Served rules.limits here other x y = λ x y ran. subst (λ (its : List Item). Served rules.limits its other x y) same_its ran in
      record {
        checkpoint = w.checkpoint;
        is_checkpoint = w.is_checkpoint;
        taken_is = w.taken_is;
        request = w.request;
        asks = w.asks;
        begins = under (origin image) w.checkpoint (says.same (origin image) w.checkpoint (served_same rules.limits items plan (origin image)) begins (served_on rules.limits items plan w.checkpoint w.request now goes later));
        goes = under w.checkpoint w.request (says.same w.checkpoint w.request begins goes later);
        later = under w.request now (says.same w.request now (served_on rules.limits items plan (origin image) w.checkpoint w.request begins goes) later (served_same rules.limits items plan now));
        flags = w.flags;
        wrote =
            subst (λ (its : List Item). Writes rules.limits its (base image) w.checkpoint (replicate pages false) w.request w.flags) (sym grown ∙ same_its)
            (writes_more rules.limits (items_in rules.bounds before) more (base image) w.checkpoint (replicate pages false) w.request w.flags w.wrote);
        count_is = w.count_is;
      };
}

-- what stands where a session with no recovery began
pub begun_stands : (rules : Rules) (image : Image) (keeping : Keeping) (from begun : List Stand) (earlier : List (List ℕ)) → AreRinged rules image [] keeping from [] [] earlier begun → begun ≡ from
begun_stands rules image keeping from begun [] is = is
begun_stands rules image keeping from begun (one ∷ earlier) is = absurd is

-- The requests of a survivor with no recovery, up to where it stands, behind those that were followed before it.
record FollowsOn (rules : Rules) (image : Image) (keeping : Keeping) (followed : List ℕ) (stands : List Stand) : Type 0 where
  before : HasFollowedRequests rules image keeping followed
  stands_are : stands ≡ starting_stands keeping followed

module _ (rules : Rules) (image : Image) (keeping : Keeping) (entries : List Entry) (more : List Item) (events : List LinkEvent) (had : List Send) (plan other : List Override) (begun now : Path) where
  follows_on : {requests : ℕ} {stands : List Stand} (written : List ℕ) (h : HasHandled rules image keeping [] entries [] (record { plan = plan; begun = begun; now = now }) requests stands) → events ≡ events_of rules.bounds entries → rules.bounds.before.plan ≡ plan
      → begun ≡ starting_path rules image → items_in rules.bounds entries ≡ items_in rules.bounds [] ++ more → SaysAs rules image (items_in rules.bounds entries) plan other now → Served rules.limits (items_in rules.bounds entries) plan begun now
      → begun.state.machine.taken + length written ≡ now.state.machine.taken → AreWritten rules image entries (record { plan = plan; begun = begun; now = now }) keeping begun.state.machine.taken written h.begun
      → FollowsOn (rules_after rules (came_before events had other now)) image keeping (written ++ h.followed) (handled keeping begun.state.machine.taken written h.begun)
  follows_on written h same plan_is begun_is grown says on many pages =
      let next : Rules = rules_after rules (came_before events had other now) in
      let here : Survivor = record { plan = other; begun = now; now = now } in
      let first : List Stand = first_stands keeping in
      let from : begun.state.machine.taken ≡ length h.followed = ap (λ (p : Path). p.state.machine.taken) begun_is ∙ sym h.before.many in
      let stood : h.begun ≡ starting_stands keeping h.followed = begun_stands rules image keeping (starting_stands keeping h.followed) h.begun h.earlier h.rings in
      let zero_first : begun.state.machine.taken ≡ 0 + length h.followed = omega (arith, from) in
      let earlier : AreWritten next image [] here keeping 0 h.followed first =
      all_wrote keeping 0 h.followed first
      (wrote_as rules image [] entries more (first_survivor rules image) events had plan other now same plan_is grown says (subst (λ (p : Path). Served rules.limits (items_in rules.bounds entries) plan p now) begun_is on)) h.before.pages in
      let later : AreWritten next image [] here keeping begun.state.machine.taken written h.begun =
      all_wrote keeping begun.state.machine.taken written h.begun
      (wrote_as rules image entries entries [] (record { plan = plan; begun = begun; now = now }) events had plan other now same refl (sym (append-nil (items_in rules.bounds entries))) says (served_same rules.limits (items_in rules.bounds entries) plan now)) pages in
      record {
        before = record {
          many = let all = length-append written h.followed in omega (arith, all, from, many);
          pages =
              both_written next image here keeping 0 written h.followed first earlier
              (subst (λ (n : ℕ). AreWritten next image [] here keeping n written (starting_stands keeping h.followed)) zero_first
              (subst (λ (list : List Stand). AreWritten next image [] here keeping begun.state.machine.taken written list) stood later));
        };
        stands_are =
            ap (handled keeping begun.state.machine.taken written) stood
            ∙ (ap (λ (n : ℕ). handled keeping n written (starting_stands keeping h.followed)) zero_first ∙ sym (handled_append keeping 0 written h.followed first));
      }

  -- So it is where all requests so far were handled, and where that at which it stands was handled too.
  pub handled_after : {stands : List Stand} → events ≡ events_of rules.bounds entries → rules.bounds.before.plan ≡ plan → begun ≡ starting_path rules image → items_in rules.bounds entries ≡ items_in rules.bounds [] ++ more
      → SaysAs rules image (items_in rules.bounds entries) plan other now → Served rules.limits (items_in rules.bounds entries) plan begun now → HandlesRequests rules image keeping [] entries [] (record { plan = plan; begun = begun; now = now }) stands
      → HandlesRequests (rules_after rules (came_before events had other now)) image keeping [] [] [] (record { plan = other; begun = now; now = now }) stands
  handled_after {stands = stands} same plan_is begun_is grown says on (inl h) =
      let f = follows_on h.written h same plan_is begun_is grown says on h.many h.pages in
      inl
      (record {
        followed = h.written ++ h.followed;
        before = f.before;
        earlier = [];
        begun = starting_stands keeping (h.written ++ h.followed);
        rings = refl;
        written = [];
        many = omega arith;
        pages = tt;
        stands_are = h.stands_are ∙ f.stands_are;
      })
  handled_after {stands = stands} same plan_is begun_is grown says on (inr at_request) = inr (at_request.0, of at_request.1.written refl, at_request.2)
    where
      next : Rules
      next = rules_after rules (came_before events had other now)

      h : HasHandled rules image keeping [] entries [] (record { plan = plan; begun = begun; now = now }) (now.state.machine.taken + 1) stands
      h = at_request.1

      of : (written : List ℕ) → h.written ≡ written → HasHandled next image keeping [] [] [] (record { plan = other; begun = now; now = now }) (now.state.machine.taken + 1) stands
      of [] none =
          let many = h.many in
          let low = taken_later rules.limits (items_in rules.bounds entries) plan begun now on in
          absurd (omega (arith, many, ap length none, low))
      of (written ∷ earlier) is =
          let pages : AreWritten rules image entries (record { plan = plan; begun = begun; now = now }) keeping begun.state.machine.taken (written ∷ earlier) h.begun =
          subst (λ (numbers : List ℕ). AreWritten rules image entries (record { plan = plan; begun = begun; now = now }) keeping begun.state.machine.taken numbers h.begun) is h.pages in
          let all = h.many in
          let many : begun.state.machine.taken + length earlier ≡ now.state.machine.taken = omega (arith, all, ap length is) in
          let f = follows_on earlier h same plan_is begun_is grown says on many pages.1 in
          let stood : List Stand = starting_stands keeping (earlier ++ h.followed) in
          let number : begun.state.machine.taken + length earlier ≡ now.state.machine.taken + 0 = omega (arith, many) in
          record {
            followed = earlier ++ h.followed;
            before = f.before;
            earlier = [];
            begun = stood;
            rings = refl;
            written = written ∷ [];
            many = omega arith;
            pages = (
              subst (λ (n : ℕ). IfSome (slice_get stood 0) (λ newest. HasWritten next image [] (record { plan = other; begun = now; now = now }) keeping.pages newest.state n written)) number
                  (subst (λ (list : List Stand). IfSome (slice_get list 0) (λ newest. HasWritten next image [] (record { plan = other; begun = now; now = now }) keeping.pages newest.state (begun.state.machine.taken + length earlier) written)) f.stands_are
                  (if_some (slice_get (handled keeping begun.state.machine.taken earlier h.begun) 0)
                  (λ newest. HasWritten rules image entries (record { plan = plan; begun = begun; now = now }) keeping.pages newest.state (begun.state.machine.taken + length earlier) written)
                  (λ newest. HasWritten next image [] (record { plan = other; begun = now; now = now }) keeping.pages newest.state (begun.state.machine.taken + length earlier) written)
                  (λ newest one.
                  (wrote_as rules image entries entries [] (record { plan = plan; begun = begun; now = now }) events had plan other now same refl (sym (append-nil (items_in rules.bounds entries))) says (served_same rules.limits (items_in rules.bounds entries) plan now)).each
                  keeping.pages newest.state (begun.state.machine.taken + length earlier) written one) pages.0)),
              tt,
            );
            stands_are =
                h.stands_are
                ∙ (ap (λ (numbers : List ℕ). handled keeping begun.state.machine.taken numbers h.begun) is
                ∙ (ap (handle keeping (begun.state.machine.taken + length earlier) written) f.stands_are ∙ ap (λ (n : ℕ). handle keeping n written stood) number));
          }
