-- Gives of one piece, call by call, and what a link over the port tells of them.
use Rattle.std.proofs.Math.Seq.{take-append_seam}
use Rattle.port_link.proofs.Terms.{Bool, Err, List, None, Ok, OnOk, Option, Result, Some, [], ap, append-nil, append_assoc, arith, drop, false, inl, inr, length, nat_lt, refl, subst, sym, take, true, ℕ, ◌++◌, ◌-◌, ◌<◌, ◌∙◌, ◌∷◌, ◌≡◌, ◌≢◌, ◌≤◌, le-ltb, lt-ltb, length-append, length-drop, length-set, length-take-le, set-get_or, take-append-drop, take_all, none-some, same_Some, IfErr, slice_set, Prefix, Entry, Given, All, Gone, LinkFault, Memory, ReadFault, Refused, WriteFault, tells_more, Gives, Tells, cut_entries, PortEntry, Logs, Closing, Place, PortLimits, Stage, Broken, Closed, Dropped, Ended, Open, Unopened, broken, is_done, is_given, is_present, phase_of, shown, stage_behind, stage_in, AreCalls, GoesOn, IsCall, Served, after_call, gives_all, gives_gone, gives_part, served_after, served_of, with_part, with_stage, Agrees, IsAt, IsClosing, IsWhole, Stands, link_journal, stage_at, told_at, with_ends, WentOn, GivesPiece, GivesTo, Leads, given_place, are_calls-append, calls_same, served_after-append, served_of-append}
use Rattle.port_link.proofs.CallLemmas.{logs_same, tells_none}
use Rattle.port_link.proofs.JournalLemmas.{same_journal}
use Rattle.port_link.proofs.PlaceLemmas.{Closes, closes_from, closes_to, number_cases, shown_set, keeps_set}
use Rattle.port_link.proofs.StepLemmas.{at_here, elsewhere, not_ended, present_less}
use Rattle.port_link.specs.declared.place.Closing.TheVariants as closing
use Rattle.ports.specs.declared.port_calls.PortEntry.TheVariants as made
use Rattle.ports.specs.declared.port_calls.FailedCall.TheVariants as call
use Rattle.links.specs.declared.journal.Entry.TheVariants as entry

-- some first bytes of a piece went out, and more are to follow
pub record Giving (conn : ℕ) (old now : Option (List PortEntry)) (bytes rest : List ℕ) : Type 0 where
  pub front : List ℕ
  pub whole : front ++ rest ≡ bytes
  pub some : 0 < length rest
  pub gave : Leads conn old now (gives_part conn front)

leads_none : (conn : ℕ) (told : Option (List PortEntry)) → Leads conn told told (gives_part conn [])
unfolding served_after AreCalls
leads_none conn None = tt
leads_none conn (Some calls) = record {
  calls = [];
  grew = sym (append-nil calls);
  are = λ limits served there none. tt;
  lead = λ served. refl;
}

part_stages : (conn : ℕ) (front : List ℕ) (served : Served) → (gives_part conn front served).stages ≡ served.stages
part_stages conn [] served = refl
part_stages conn (byte ∷ front) served = refl

pub goes_same : (part : List ℕ) (conn : ℕ) → GoesOn part conn conn
goes_same [] conn = tt
goes_same (byte ∷ part) conn = refl

goes_behind : (conn : ℕ) (front : List ℕ) (served : Served) → served.part ≡ [] → GoesOn (gives_part conn front served).part (gives_part conn front served).to conn
goes_behind conn [] served none = subst (λ (part : List ℕ). GoesOn part served.to conn) (sym none) tt
goes_behind conn (byte ∷ front) served none = goes_same (served.part ++ byte ∷ front) conn

leads_more : (conn : ℕ) (old mid new : Option (List PortEntry)) (front : List ℕ) (call : PortEntry) (leads : Served → Served) → Leads conn old mid (gives_part conn front) → Logs mid new (call ∷ [])
    → ((limits : PortLimits) (served : Served) → is_present (served.stages conn) ≡ true → GoesOn served.part served.to conn → IsCall limits served call) → ((served : Served) → after_call (gives_part conn front served) call ≡ leads served) → Leads conn old new leads
unfolding served_after AreCalls
leads_more conn None None None front call leads gave logs is lead = tt
leads_more conn None None (Some new) front call leads gave logs is lead = absurd logs
leads_more conn None (Some mid) new front call leads gave logs is lead = absurd gave
leads_more conn (Some old) None new front call leads gave logs is lead = absurd gave
leads_more conn (Some old) (Some mid) None front call leads gave logs is lead = absurd logs
leads_more conn (Some old) (Some mid) (Some new) front call leads gave logs is lead = record {
  calls = gave.calls ++ call ∷ [];
  grew = logs ∙ ap (λ l. l ++ call ∷ []) gave.grew ∙ append_assoc old gave.calls (call ∷ []);
  are = λ limits served there none.
      let behind : is_present ((served_after served gave.calls).stages conn) ≡ true =
      ap (λ (s : Served). is_present (s.stages conn)) (gave.lead served) ∙ ap (λ (f : ℕ → Stage). is_present (f conn)) (part_stages conn front served) ∙ there in
      let goes : GoesOn (served_after served gave.calls).part (served_after served gave.calls).to conn =
      subst (λ (s : Served). GoesOn s.part s.to conn) (sym (gave.lead served)) (goes_behind conn front served none) in
      are_calls-append limits served gave.calls (call ∷ []) (gave.are limits served there none) (is limits (served_after served gave.calls) behind goes, tt);
  lead = λ served. served_after-append served gave.calls (call ∷ []) ∙ ap (λ (s : Served). after_call s call) (gave.lead served) ∙ lead served;
}

leads_same : (conn : ℕ) (old mid new : Option (List PortEntry)) (leads : Served → Served) → Leads conn old mid leads → Logs mid new [] → Leads conn old new leads
leads_same conn None None None leads gave logs = tt
leads_same conn None None (Some new) leads gave logs = absurd logs
leads_same conn None (Some mid) new leads gave logs = absurd gave
leads_same conn (Some old) None new leads gave logs = absurd gave
leads_same conn (Some old) (Some mid) None leads gave logs = absurd logs
leads_same conn (Some old) (Some mid) (Some new) leads gave logs =
    record { calls = gave.calls; grew = logs ∙ append-nil mid ∙ gave.grew; are = gave.are; lead = gave.lead }

gave_part : (conn : ℕ) (front piece : List ℕ) (offered : ℕ) (served : Served) → 0 < length piece → nat_lt (length piece) offered ≡ true → after_call (gives_part conn front served) (made.Gave conn piece offered) ≡ gives_part conn (front ++ piece) served
unfolding after_call
gave_part conn front [] offered served some less = absurd (omega arith)
gave_part conn [] (byte ∷ piece) offered served some less = rw less refl
gave_part conn (first ∷ front) (byte ∷ piece) offered served some less =
    rw less (ap (λ (part : List ℕ). let there : Served = record served { to = conn; part = part } in there) (append_assoc served.part (first ∷ front) (byte ∷ piece)))

gave_all : (conn : ℕ) (front piece : List ℕ) (offered : ℕ) (served : Served) → nat_lt (length piece) offered ≡ false → after_call (gives_part conn front served) (made.Gave conn piece offered) ≡ gives_all conn (front ++ piece) served
unfolding after_call
gave_all conn [] piece offered served less = rw less refl
gave_all conn (first ∷ front) piece offered served less =
    rw less (ap (λ (bytes : List ℕ). let there : Served = record served { entries = served.entries ++ entry.Gave conn bytes false ∷ []; to = conn; part = [] } in there) (append_assoc served.part (first ∷ front) piece))

gave_gone : (conn : ℕ) (front : List ℕ) (served : Served) → after_call (gives_part conn front served) (made.Failed (call.Give conn)) ≡ gives_gone conn front served
unfolding after_call
gave_gone conn [] served = refl
gave_gone conn (first ∷ front) served =
    ap (λ (bytes : List ℕ). let there : Served = record served { stages = with_stage conn (broken (served.stages conn)) served.stages; entries = served.entries ++ entry.Gave conn bytes true ∷ []; to = conn; part = [] } in there)
    (append-nil (served.part ++ first ∷ front))

-- at the start
pub giving_start : (conn : ℕ) (told : Option (List PortEntry)) (bytes : List ℕ) → 0 < length bytes → Giving conn told told bytes bytes
giving_start conn told bytes some = record { front = []; whole = refl; some = some; gave = leads_none conn told }

take_some : (n : ℕ) (rest : List ℕ) → 0 < n → n ≤ length rest → 0 < length (take n rest)
take_some n rest some within = let size = length-take-le n rest within in omega arith

-- one call took some bytes, and not all
pub giving_on : (conn : ℕ) (old mid new : Option (List PortEntry)) (bytes rest : List ℕ) (n : ℕ) → Giving conn old mid bytes rest → Logs mid new (made.Gave conn (take n rest) (length rest) ∷ []) → 0 < n → n < length rest
    → Giving conn old new bytes (drop n rest)
giving_on conn old mid new bytes rest n giving logs some less = record {
  front = giving.front ++ take n rest;
  whole = append_assoc giving.front (take n rest) (drop n rest) ∙ ap (λ l. giving.front ++ l) (take-append-drop n rest) ∙ giving.whole;
  some = let size = length-drop n rest in omega arith;
  gave = leads_more conn old mid new giving.front (made.Gave conn (take n rest) (length rest)) (gives_part conn (giving.front ++ take n rest)) giving.gave logs
      (λ limits served there goes. (there, take_some n rest some (omega arith), goes))
      (λ served. gave_part conn giving.front (take n rest) (length rest) served (take_some n rest some (omega arith)) (let size = length-take-le n rest (omega arith) in lt-ltb (length (take n rest)) (length rest) (omega arith)));
}

-- one took all
pub gave_rest : (conn : ℕ) (old mid new : Option (List PortEntry)) (bytes rest : List ℕ) (n : ℕ) → Giving conn old mid bytes rest → Logs mid new (made.Gave conn (take n rest) (length rest) ∷ []) → n ≡ length rest
    → Leads conn old new (gives_all conn bytes)
gave_rest conn old mid new bytes rest n giving logs all =
    let same : take n rest ≡ rest = take_all n rest (omega arith) in
    subst (λ (l : List ℕ). Leads conn old new (gives_all conn l)) giving.whole
    (leads_more conn old mid new giving.front (made.Gave conn rest (length rest)) (gives_all conn (giving.front ++ rest)) giving.gave (subst (λ (l : List ℕ). Logs mid new (made.Gave conn l (length rest) ∷ [])) same logs)
    (λ limits served there goes. (there, giving.some, goes)) (λ served. gave_all conn giving.front rest (length rest) served (le-ltb (length rest) (length rest) (omega arith))))

-- one failed: what went out before it did
pub gave_cut : (conn : ℕ) (old mid new : Option (List PortEntry)) (bytes rest : List ℕ) → Giving conn old mid bytes rest → Logs mid new (made.Failed (call.Give conn) ∷ []) → Leads conn old new (gives_gone conn (take (length bytes - length rest) bytes))
gave_cut conn old mid new bytes rest giving logs =
    let sizes : length giving.front ≡ length bytes - length rest = let joined = ap length giving.whole in let sum = length-append giving.front rest in omega arith in
    let front : take (length bytes - length rest) bytes ≡ giving.front =
    ap (λ k. take k bytes) (sym sizes) ∙ ap (take (length giving.front)) (sym giving.whole) ∙ take-append_seam giving.front rest in
    subst (λ (l : List ℕ). Leads conn old new (gives_gone conn l)) (sym front)
    (leads_more conn old mid new giving.front (made.Failed (call.Give conn)) (gives_gone conn giving.front) giving.gave logs (λ limits served there goes. (there, goes)) (gave_gone conn giving.front))

-- for one memory ran out
pub gave_some : (conn : ℕ) (old mid new : Option (List PortEntry)) (bytes rest : List ℕ) → Giving conn old mid bytes rest → Logs mid new [] → (front : List ℕ) × Prefix front bytes × Leads conn old new (gives_part conn front)
gave_some conn old mid new bytes rest giving logs = (giving.front, (rest, giving.whole), leads_same conn old mid new (gives_part conn giving.front) giving.gave logs)

-- the stage that a give leaves
broken_shown : (stage : Stage) → broken (shown stage) ≡ shown (broken stage)
broken_shown Unopened = refl
broken_shown Open = refl
broken_shown Ended = refl
broken_shown Broken = refl
broken_shown Dropped = refl
broken_shown Closed = refl

broken_present : (stage : Stage) → is_present (broken stage) ≡ is_present stage
broken_present Unopened = refl
broken_present Open = refl
broken_present Ended = refl
broken_present Broken = refl
broken_present Dropped = refl
broken_present Closed = refl

broken_given : (stage : Stage) → is_given (broken stage) ≡ is_given stage
broken_given Unopened = refl
broken_given Open = refl
broken_given Ended = refl
broken_given Broken = refl
broken_given Dropped = refl
broken_given Closed = refl

broken_done : (stage : Stage) → is_done (broken stage) ≡ is_done stage
broken_done Unopened = refl
broken_done Open = refl
broken_done Ended = refl
broken_done Broken = refl
broken_done Dropped = refl
broken_done Closed = refl

broken_phase : (stage : Stage) → phase_of (broken stage) ≡ phase_of stage
broken_phase Unopened = refl
broken_phase Open = refl
broken_phase Ended = refl
broken_phase Broken = refl
broken_phase Dropped = refl
broken_phase Closed = refl

-- what isn't changed by breaking isn't changed by a give
pub behind_keeps : {Y : Type 0} (f : Stage → Y) → ((stage : Stage) → f (broken stage) ≡ f stage) → (stage : Stage) (result : Result Given LinkFault) → f (stage_behind stage result) ≡ f stage
behind_keeps f same stage (Ok All) = refl
behind_keeps f same stage (Ok (Gone count)) = same stage
behind_keeps f same stage (Err fault) = refl

pub given_phase : (stage : Stage) (result : Result Given LinkFault) → phase_of (stage_behind stage result) ≡ phase_of stage
given_phase stage result = behind_keeps phase_of broken_phase stage result

pub given_gives : (stage : Stage) (result : Result Given LinkFault) → is_given (stage_behind stage result) ≡ is_given stage
given_gives stage result = behind_keeps is_given broken_given stage result

behind_fixed : (stage : Stage) (result : Result Given LinkFault) → broken stage ≡ stage → stage_behind stage result ≡ stage
behind_fixed stage (Ok All) is = refl
behind_fixed stage (Ok (Gone count)) is = is
behind_fixed stage (Err fault) is = refl

-- a connection whose close was answered keeps its stage
stays_in : (of : ℕ) (stages : List Stage) (conn : ℕ) (result : Result Given LinkFault) → conn < length stages → (stage : Stage) → broken stage ≡ stage → stage_in stages of ≡ stage
    → stage_in (slice_set stages conn (stage_behind (stage_in stages conn) result)) of ≡ stage
stays_in of stages conn result less stage kept there = elim (number_cases of conn) [
  | inl same ↦
      let here : stage_in stages conn ≡ stage = ap (λ (n : ℕ). stage_in stages n) (sym same) ∙ there in
      ap (λ (n : ℕ). stage_in (slice_set stages conn (stage_behind (stage_in stages conn) result)) n) same ∙ at_here stages conn (stage_behind (stage_in stages conn) result) less
      ∙ behind_fixed (stage_in stages conn) result (ap broken here ∙ kept ∙ sym here) ∙ here
  | inr differ ↦ elsewhere stages conn of (stage_behind (stage_in stages conn) result) less differ ∙ there
]

-- which close was answered last is the same
kept_by : (was : Closing) (stages : List Stage) (conn : ℕ) (result : Result Given LinkFault) → conn < length stages → Closes was stages → Closes was (slice_set stages conn (stage_behind (stage_in stages conn) result))
kept_by closing.Nothing stages conn result less there = λ other. keeps_set is_done stages conn _ less (behind_keeps is_done broken_done (stage_in stages conn) result) other ∙ there other
kept_by (closing.Due of) stages conn result less there = (stays_in of stages conn result less Ended refl there.0, λ other differ. keeps_set is_done stages conn _ less (behind_keeps is_done broken_done (stage_in stages conn) result) other ∙ there.1 other differ)
kept_by (closing.Made of) stages conn result less there = (stays_in of stages conn result less Dropped refl there.0, λ other differ. keeps_set is_done stages conn _ less (behind_keeps is_done broken_done (stage_in stages conn) result) other ∙ there.1 other differ)

closing_kept : (was : Closing) (stages : List Stage) (conn : ℕ) (result : Result Given LinkFault) → conn < length stages → IsClosing was stages → IsClosing was (slice_set stages conn (stage_behind (stage_in stages conn) result))
closing_kept was stages conn result less there =
    closes_to was (slice_set stages conn (stage_behind (stage_in stages conn) result)) (kept_by was stages conn result less (closes_from was stages there))

given_in : (ends conn to : ℕ) (entries : List Entry) (part bytes : List ℕ) (gone : Bool) → ends ≡ 0 → part ≡ []
    → with_ends ends (entries ++ entry.Gave conn (part ++ bytes) gone ∷ []) ≡ with_ends ends (with_part entries to part) ++ entry.Gave conn bytes gone ∷ []
given_in ends conn to entries part bytes gone none whole = rw (none, whole) refl

part_in : (ends conn to : ℕ) (entries : List Entry) (part : List ℕ) (byte : ℕ) (bytes : List ℕ) → ends ≡ 0 → part ≡ []
    → with_ends ends (with_part entries conn (part ++ byte ∷ bytes)) ≡ with_ends ends (with_part entries to part) ++ entry.Gave conn (byte ∷ bytes) false ∷ []
part_in ends conn to entries part byte bytes none whole = rw (none, whole) refl

given_part_in : (place : Place) (served : Served) (conn : ℕ) (front : List ℕ) → place.ends ≡ 0 → served.part ≡ [] → link_journal place (gives_part conn front served) ≡ link_journal place served ++ cut_entries conn front
unfolding link_journal
given_part_in place served conn [] none whole = sym (append-nil _)
given_part_in place served conn (byte ∷ front) none whole = part_in place.ends conn served.to served.entries served.part byte front none whole

leads_tell : (conn : ℕ) (old new : Option (List PortEntry)) (leads : Served → Served) (place later : Place) (more : List Entry) → Leads conn old new leads
    → ((calls : List PortEntry) → old ≡ Some calls → link_journal later (leads (served_of calls)) ≡ link_journal place (served_of calls) ++ more) → Tells (told_at old place) (told_at new later) more
unfolding told_at
leads_tell conn None None leads place later more gave journal = record { events = tt; pieces = tt; journal = tt }
leads_tell conn None (Some new) leads place later more gave journal = absurd gave
leads_tell conn (Some old) None leads place later more gave journal = absurd gave
leads_tell conn (Some old) (Some new) leads place later more gave journal =
    tells_more (link_journal place (served_of old)) (link_journal later (served_of new)) more
    (ap (link_journal later) (ap served_of gave.grew ∙ served_of-append old gave.calls ∙ gave.lead (served_of old)) ∙ journal old refl)

leads_agree : (conn : ℕ) (old new : Option (List PortEntry)) (leads : Served → Served) (later : Place) → Leads conn old new leads → ((calls : List PortEntry) → old ≡ Some calls → IsAt later (leads (served_of calls))) → Agrees new later
leads_agree conn old None leads later gave at = λ calls is. absurd (none-some calls is)
leads_agree conn None (Some new) leads later gave at = absurd gave
leads_agree conn (Some old) (Some new) leads later gave at = λ calls is.
    subst (IsAt later) (sym (ap served_of (sym (same_Some new calls is) ∙ gave.grew) ∙ served_of-append old gave.calls ∙ gave.lead (served_of old))) (at old refl)

leads_whole : (conn : ℕ) (old new : Option (List PortEntry)) (leads : Served → Served) → Leads conn old new leads → ((served : Served) → (leads served).part ≡ []) → IsWhole new
leads_whole conn old None leads gave whole = λ calls is. absurd (none-some calls is)
leads_whole conn None (Some new) leads gave whole = absurd gave
leads_whole conn (Some old) (Some new) leads gave whole = λ calls is.
    ap (λ (s : Served). s.part) (ap served_of (sym (same_Some new calls is) ∙ gave.grew) ∙ served_of-append old gave.calls ∙ gave.lead (served_of old)) ∙ whole (served_of old)

shown_present : (stage : Stage) → is_present stage ≡ true → is_present (shown stage) ≡ true
shown_present Unopened there = cc
shown_present Open there = refl
shown_present Ended there = refl
shown_present Broken there = refl
shown_present Dropped there = cc
shown_present Closed there = cc

leads_went : (limits : PortLimits) (conn : ℕ) (old new : Option (List PortEntry)) (leads : Served → Served) (place : Place) → Leads conn old new leads → Agrees old place → IsWhole old → is_present (stage_at place conn) ≡ true → WentOn limits old new
leads_went limits conn None None leads place gave agrees whole there = tt
leads_went limits conn None (Some new) leads place gave agrees whole there = absurd gave
leads_went limits conn (Some old) None leads place gave agrees whole there = absurd gave
leads_went limits conn (Some old) (Some new) leads place gave agrees whole there = record {
  calls = gave.calls;
  grew = gave.grew;
  are = gave.are limits (served_of old) (ap is_present ((agrees old refl).stages conn) ∙ shown_present (stage_at place conn) there) (whole old refl);
}

part_at : (place : Place) (conn : ℕ) (front : List ℕ) (served : Served) → IsAt place served → IsAt place (gives_part conn front served)
part_at place conn [] served at = at
part_at place conn (byte ∷ front) served at = record { stages = at.stages; accepted = at.accepted; closed = at.closed; stopped = at.stopped }

-- what it tells, where it stands and what calls it made
module _ (limits : PortLimits) (conn : ℕ) (old new : Option (List PortEntry)) (place : Place) (bytes : List ℕ) where
  tells_given : (result : Result Given LinkFault) → GivesTo conn old new bytes result → place.ends ≡ 0 → IsWhole old → Gives (told_at old place) (told_at new (given_place conn result place)) conn bytes result
  unfolding link_journal
  tells_given (Ok All) gave none whole =
      leads_tell conn old new (gives_all conn bytes) place (given_place conn (Ok All) place) (entry.Gave conn bytes false ∷ []) gave
      (λ calls is. given_in place.ends conn (served_of calls).to (served_of calls).entries (served_of calls).part bytes false none (whole calls is))
  tells_given (Ok (Gone count)) gave none whole = (
    gave.0,
    leads_tell conn old new (gives_gone conn (take count bytes)) place (given_place conn (Ok (Gone count)) place) (entry.Gave conn (take count bytes) true ∷ []) gave.1
        (λ calls is. given_in place.ends conn (served_of calls).to (served_of calls).entries (served_of calls).part (take count bytes) true none (whole calls is)),
  )
  tells_given (Err Memory) gave none whole = (
    gave.0,
    gave.1,
    leads_tell conn old new (gives_part conn gave.0) place (given_place conn (Err Memory) place) (cut_entries conn gave.0) gave.2 (λ calls is. given_part_in place (served_of calls) conn gave.0 none (whole calls is)),
  )
  tells_given (Err ReadFault) gave none whole = absurd gave
  tells_given (Err WriteFault) gave none whole = absurd gave
  tells_given (Err (Refused kind offset)) gave none whole = absurd gave

  -- the table is as it was where a give didn't find its connection gone
  still_at : (result : Result Given LinkFault) (served : Served) → conn < length place.stages → stage_behind (stage_at place conn) result ≡ stage_at place conn → IsAt place served → IsAt (given_place conn result place) served
  still_at result served inside is at = record {
    stages = λ other. at.stages other ∙ sym (keeps_set shown place.stages conn (stage_behind (stage_at place conn) result) inside (ap shown is) other);
    accepted = at.accepted;
    closed = at.closed;
    stopped = at.stopped;
  }

  agrees_given : (result : Result Given LinkFault) → GivesTo conn old new bytes result → conn < length place.stages → Agrees old place → Agrees new (given_place conn result place)
  agrees_given (Ok All) gave inside agrees =
      leads_agree conn old new (gives_all conn bytes) (given_place conn (Ok All) place) gave (λ calls is.
      let at = still_at (Ok All) (served_of calls) inside refl (agrees calls is) in record { stages = at.stages; accepted = at.accepted; closed = at.closed; stopped = at.stopped })
  agrees_given (Ok (Gone count)) gave inside agrees =
      leads_agree conn old new (gives_gone conn (take count bytes)) (given_place conn (Ok (Gone count)) place) gave.1 (λ calls is. record {
        stages = λ other. shown_set place.stages conn (broken (stage_at place conn)) (broken ((served_of calls).stages conn)) (served_of calls).stages inside
            (ap broken ((agrees calls is).stages conn) ∙ broken_shown (stage_at place conn)) (agrees calls is).stages other;
        accepted = (agrees calls is).accepted;
        closed = (agrees calls is).closed;
        stopped = (agrees calls is).stopped;
      })
  agrees_given (Err Memory) gave inside agrees =
      leads_agree conn old new (gives_part conn gave.0) (given_place conn (Err Memory) place) gave.2 (λ calls is.
      still_at (Err Memory) (gives_part conn gave.0 (served_of calls)) inside refl (part_at place conn gave.0 (served_of calls) (agrees calls is)))
  agrees_given (Err ReadFault) gave inside agrees = absurd gave
  agrees_given (Err WriteFault) gave inside agrees = absurd gave
  agrees_given (Err (Refused kind offset)) gave inside agrees = absurd gave

  whole_given : (result : Result Given LinkFault) → GivesTo conn old new bytes result → OnOk result (IsWhole new)
  whole_given (Ok All) gave = leads_whole conn old new (gives_all conn bytes) gave (λ served. refl)
  whole_given (Ok (Gone count)) gave = leads_whole conn old new (gives_gone conn (take count bytes)) gave.1 (λ served. refl)
  whole_given (Err fault) gave = tt

  went_given : (result : Result Given LinkFault) → GivesTo conn old new bytes result → Agrees old place → IsWhole old → is_present (stage_at place conn) ≡ true → WentOn limits old new
  went_given (Ok All) gave agrees whole there = leads_went limits conn old new (gives_all conn bytes) place gave agrees whole there
  went_given (Ok (Gone count)) gave agrees whole there = leads_went limits conn old new (gives_gone conn (take count bytes)) place gave.1 agrees whole there
  went_given (Err Memory) gave agrees whole there = leads_went limits conn old new (gives_part conn gave.0) place gave.2 agrees whole there
  went_given (Err ReadFault) gave agrees whole there = absurd gave
  went_given (Err WriteFault) gave agrees whole there = absurd gave
  went_given (Err (Refused kind offset)) gave agrees whole there = absurd gave

  -- no fault but want of memory comes
  memory_alone : (result : Result Given LinkFault) → GivesTo conn old new bytes result → IfErr result (λ fault. fault ≡ Memory)
  memory_alone (Ok given) gave = tt
  memory_alone (Err Memory) gave = refl
  memory_alone (Err ReadFault) gave = absurd gave
  memory_alone (Err WriteFault) gave = absurd gave
  memory_alone (Err (Refused kind offset)) gave = absurd gave

  -- a piece was given, and the link stands behind it
  pub give_does : (connections now : List Bool) (result : Result Given LinkFault) → GivesTo conn old new bytes result → Stands old connections limits place → IsWhole old → is_present (stage_at place conn) ≡ true → conn < length place.stages → now ≡ connections
      → GivesPiece limits conn old new now place (given_place conn result place) bytes result
  give_does connections now result gave stands whole there inside is =
      let less = present_less limits old new connections place stands conn there in
      subst (λ (c : List Bool). GivesPiece limits conn old new c place (given_place conn result place) bytes result) (sym is)
      (record {
        place_is = refl;
        stands = record {
          agrees = agrees_given result gave inside stands.agrees;
          room = length-set place.stages conn (stage_behind (stage_at place conn) result) ∙ stands.room;
          present = λ other. stands.present other ∙ sym (keeps_set is_present place.stages conn (stage_behind (stage_at place conn) result) inside (behind_keeps is_present broken_present (stage_at place conn) result) other);
          accepted = stands.accepted;
          count = stands.count;
          behind = λ other past. elsewhere place.stages conn other (stage_behind (stage_at place conn) result) inside (λ same. let no : ⊥ = omega arith in no) ∙ stands.behind other past;
          closing = closing_kept place.closing place.stages conn result inside stands.closing;
          most = stands.most;
          at_once = stands.at_once;
          ended = stands.ended;
        };
        given = tells_given result gave (not_ended limits old new connections place stands conn there) whole;
        whole = whole_given result gave;
        went = went_given result gave stands.agrees whole there;
        fault = memory_alone result gave;
      })

given_same : (place : Place) (conn : ℕ) → given_place conn (Err Memory) place ≡ place
given_same place conn = ap (λ (stages : List Stage). let made_place : Place = record place { stages = stages } in made_place) (set-get_or place.stages conn Unopened)

-- to a connection that was closed, since a give to it had failed, nothing is given
pub give_dropped : (limits : PortLimits) (conn : ℕ) (told : Option (List PortEntry)) (connections : List Bool) (place : Place) (bytes : List ℕ) → Stands told connections limits place
    → GivesPiece limits conn told told connections place place bytes (Err Memory)
give_dropped limits conn told connections place bytes stands = record {
  place_is = sym (given_same place conn);
  stands = stands;
  given = ([], (bytes, refl), tells_none told told place place [] (logs_same told) (λ calls is. same_journal place (served_of calls)));
  whole = tt;
  went = calls_same limits told;
  fault = refl;
}

-- a connection to which may be given is open at the port, unless it was closed since
pub given_there : (stage : Stage) → is_given stage ≡ true → stage ≢ Dropped → is_present stage ≡ true
given_there Unopened given not = cc
given_there Open given not = refl
given_there Ended given not = refl
given_there Broken given not = refl
given_there Dropped given not = absurd (not refl)
given_there Closed given not = cc
