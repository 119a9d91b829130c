-- What a replay over a trunk leaves, by what it leaves over a link.
use Rattle.run_history.specs.declared.answer.Answer.TheVariants as answer
use Rattle.session_state.specs.Serving.{StaysKnown}
use Rattle.routes.proofs.Terms.{List, None, Option, Some, [], arith, inl, inr, option_map, refl, subst, sym, true, ℕ, ◌+◌, ◌∙◌, ◌≡◌, IsSome, Stream, Entry, gives_below_4096, Coming, Counts, Grew, Handed, IsFresh, Told, events_in, pieces_in, Seen, Choice, Countable, GivesOn, Intake, Output, TakesOn, TookFrames, WroteFrames, told_coming, told_events, told_nothing, told_pieces, trunk_told, Image, Answer, Run, items_in, Recorded, Difference, TellsDifference, EndsBy, HasReplayedBy, IsAsking, IsReplay, LeavesLink, Replay, bounds_of, BreaksTrunk, TakesNoPart, WritesWhole, ComparesTrunk, IsRecordedRun, ReplaysTrunk, TakesReplay, TookReplay, WritesFront, WritesReplay}
use Rattle.routes.proofs.WriteLemmas.{Short}
use Rattle.routes.proofs.StopLemmas.{HasTaken, took_whole, took_refused, drained}
use Rattle.routes.proofs.ServeLemmas.{upcoming, has_taken, known_still, takes_trunk, writes_trunk, writes_whole}
use Rattle.routes.proofs.FrontLemmas.{front_by}
use Rattle.routes.proofs.SendLemmas.{sends_written}

abbrev pub shown : Intake → Output → Option Handed → Counts → Seen
shown intake output handed counts = record {
  told = trunk_told (told_events intake.told intake.took intake.phases intake.takes) (told_pieces output.told output.wrote output.gives);
  phases = intake.phases;
  coming = told_coming intake.told intake.took intake.phases intake.takes intake.refused;
  handed = handed;
  gives_to = gives_below_4096;
  takes = intake.takes;
  gives = output.gives;
  counts = counts;
}

stays_known : (before now : Option Coming) → (IsSome before → IsSome now) → StaysKnown before now
stays_known None now known = tt
stays_known (Some coming) now known = known refl

module _ (image : Image) (recording : Recorded) (entries : List Entry) (replay : Replay) where
  -- at Finished the run is the record's
  whole_run : (coming : Option Coming) (end : Answer) → IsReplay image recording entries replay → EndsBy image recording entries coming replay end → IsRecordedRun image recording entries replay end
  whole_run coming answer.Finished is ends =
      (subst (λ n. Run image (items_in (bounds_of recording) entries) replay.choices n replay.state) ends.0 is.ran, is.lines, ends.1, ends.2)
  whole_run coming _ is ends = tt

  -- what was written, by the answer
  writes_by : (coming : Option Coming) (sink later : Option (List ℕ)) (before now : Seen) (end : Answer) → EndsBy image recording entries coming replay end → LeavesLink before now end
      → WritesFront sink later replay.state.sends → (now.gives ≡ true → WritesWhole sink later (pieces_in entries)) → WritesReplay sink later replay.state.sends end
  writes_by coming sink later before now answer.Finished ends leaves front whole = sends_written sink later replay.state.sends (pieces_in entries) ends.3 (whole leaves.1)
  writes_by coming sink later before now (answer.Mismatch step) ends leaves front whole = sends_written sink later replay.state.sends (pieces_in entries) ends.2 (whole leaves.1)
  writes_by coming sink later before now (answer.InputRefused kind offset) ends leaves front whole = sends_written sink later replay.state.sends (pieces_in entries) ends.0.given (whole leaves.1)
  writes_by coming sink later before now (answer.MessageTooLong conn) ends leaves front whole = sends_written sink later replay.state.sends (pieces_in entries) ends.2 (whole leaves.1)
  writes_by coming sink later before now answer.LimitItems ends leaves front whole = sends_written sink later replay.state.sends (pieces_in entries) ends.2 (whole leaves.1)
  writes_by coming sink later before now answer.LimitEvents ends leaves front whole = sends_written sink later replay.state.sends (pieces_in entries) ends.2 (whole leaves.1)
  writes_by coming sink later before now answer.ReadFault ends leaves front whole = sends_written sink later replay.state.sends (pieces_in entries) ends.given (whole leaves)
  writes_by coming sink later before now answer.WriteFault ends leaves front whole = front
  writes_by coming sink later before now answer.Memory ends leaves front whole = front
  writes_by coming sink later before now _ ends leaves front whole = absurd ends

-- what was taken, by the answer
took_by : (image : Image) (recording : Recorded) (entries : List Entry) (replay : Replay) (new : Intake) (output : Output) (handed : Option Handed) (counts : Counts) (before : Stream) (first : Seen) (end : Answer) → Countable new.told → HasTaken new before (events_in entries)
    → LeavesLink first (shown new output handed counts) end → ((IsSome first.coming → IsSome (upcoming new)) → IsSome (upcoming new)) → EndsBy image recording entries (upcoming new) replay end → TookReplay (Some before) new.told entries end
took_by image recording entries replay new output handed counts before first (answer.Mismatch step) few taken leaves known ends =
    (took_whole new before (events_in entries) taken leaves.0, λ ended. drained new.told new.took new.phases new.takes new.refused leaves.0 (ends.3 ended))
took_by image recording entries replay new output handed counts before first (answer.InputRefused kind offset) few taken leaves known ends =
    took_refused new before (events_in entries) kind offset few taken leaves.0 (known leaves.2) ends.1
took_by image recording entries replay new output handed counts before first answer.ReadFault few taken leaves known ends = tt
took_by image recording entries replay new output handed counts before first answer.WriteFault few taken leaves known ends = took_whole new before (events_in entries) taken leaves
took_by image recording entries replay new output handed counts before first answer.Memory few taken leaves known ends = tt
took_by image recording entries replay new output handed counts before first _ few taken leaves known ends = took_whole new before (events_in entries) taken leaves.0

module _ (image : Image) (recording : Recorded) (entries : List Entry) (replay : Replay) (old new : Intake) (fresh : IsFresh old.phases) (none : old.took ≡ 0) (few : Countable new.told) (went : TookFrames old new)
    (grew : Grew (option_map (λ _. []) old.told) (told_events new.told new.took new.phases new.takes) (events_in entries)) where
  by_told : (P : Option Stream → Type 0) → P None → ((before : Stream) → old.told ≡ Some before → HasTaken new before (events_in entries) → P (Some before)) → P old.told
  by_told P untold told = by old.told refl grew
    where
      by : (before : Option Stream) → old.told ≡ before → Grew (option_map (λ _. []) before) (told_events new.told new.took new.phases new.takes) (events_in entries) → P before
      by None is grew = untold
      by (Some before) is grew = told before is (has_taken old new before (events_in entries) is fresh none few went grew)

  takes_replay : (out later : Output) (handed handed_later : Option Handed) (counts counts_later : Counts) (end : Answer) → old.takes ≡ true → LeavesLink (shown old out handed counts) (shown new later handed_later counts_later) end → EndsBy image recording entries (upcoming new) replay end
      → TakesReplay old.told new.told entries end
  takes_replay out later handed handed_later counts counts_later end takes leaves ends =
      by_told (λ source. TakesReplay source new.told entries end) tt
      (λ before is taken. took_by image recording entries replay new later handed_later counts_later before (shown old out handed counts) end few taken leaves (λ known. known_still old before (upcoming new) is takes (stays_known (upcoming old) (upcoming new) known)) ends)

  no_part : new.takes ≡ true → TakesNoPart old.told new.told (events_in entries)
  no_part still = by_told (λ source. TakesNoPart source new.told (events_in entries)) tt (λ before is taken. inl (took_whole new before (events_in entries) taken still))

  breaks_by : (coming : Option Coming) (first now : Seen) (sink later : Option (List ℕ)) (end : Answer) → now.takes ≡ new.takes → EndsBy image recording entries coming replay end → LeavesLink first now end
      → (now.gives ≡ true → WritesWhole sink later (pieces_in entries)) → BreaksTrunk old.told new.told sink later (events_in entries) (pieces_in entries) end
  breaks_by coming first now sink later answer.WriteFault same ends leaves whole = no_part (sym same ∙ leaves)
  breaks_by coming first now sink later answer.ReadFault same ends leaves whole = whole leaves
  breaks_by coming first now sink later answer.FileFault same ends leaves whole = absurd ends
  breaks_by coming first now sink later answer.Memory same ends (inl takes) whole = inl (no_part (sym same ∙ takes))
  breaks_by coming first now sink later answer.Memory same ends (inr gave) whole = inr (whole gave)
  breaks_by coming first now sink later _ same ends leaves whole = tt

-- a replay over a link that was made
pub replays : (image : Image) (recording : Recorded) (old new : Intake) (out later : Output) (handed handed_later : Option Handed) (counts counts_later : Counts) (end : Answer) (before after counted : ℕ) → IsFresh old.phases → old.took ≡ 0 → out.wrote ≡ 0
    → old.takes ≡ true → out.gives ≡ true → Countable new.told → Short later.told → (shown old out handed counts).told ≡ told_nothing old.told out.told → TakesOn old.takes old new → GivesOn out.gives out later
    → LeavesLink (shown old out handed counts) (shown new later handed_later counts_later) end
    → HasReplayedBy image recording (shown old out handed counts) (shown new later handed_later counts_later) (WritesFront out.told later.told) end before after
    → after ≡ before + counted → ReplaysTrunk image recording old.told new.told out.told later.told end counted
replays image recording old new out later handed handed_later counts counts_later end before after counted is_fresh none nothing takes gives few short start taken_on given_on leaves has count =
    let replayed = has.replayed in
    let went : TookFrames old new = subst (λ b. TakesOn b old new) takes taken_on in
    let wrote : WroteFrames out later = subst (λ b. GivesOn b out later) gives given_on in
    let events = subst (λ (told : Told). Grew told.events (told_events new.told new.took new.phases new.takes) (events_in replayed.entries)) start replayed.tells.events in
    let pieces = subst (λ (told : Told). Grew told.pieces (told_pieces later.told later.wrote later.gives) (pieces_in replayed.entries)) start replayed.tells.pieces in
    let whole : later.gives ≡ true → WritesWhole out.told later.told (pieces_in replayed.entries) = λ is. writes_whole out later (pieces_in replayed.entries) nothing short wrote is pieces in
    let front = front_by out.told later.told replayed.replay.state.sends (pieces_in replayed.entries) later.gives has.given has.last whole in
    record {
      entries = replayed.entries;
      replay = replayed.replay;
      coming = upcoming new;
      asked = replayed.asked;
      is = replayed.is;
      ends = replayed.ends;
      whole = whole_run image recording replayed.entries replayed.replay (upcoming new) end replayed.is replayed.ends;
      all_counted = let all = replayed.counted in omega (arith, all, count);
      took = takes_trunk old new (events_in replayed.entries) (IsAsking image recording replayed.entries replayed.replay) replayed.failed is_fresh none few went events;
      takes = takes_replay image recording replayed.entries replayed.replay old new is_fresh none few went events out later handed handed_later counts counts_later end takes leaves replayed.ends;
      wrote = writes_trunk out later (pieces_in replayed.entries) nothing short wrote pieces;
      writes = writes_by image recording replayed.entries replayed.replay (upcoming new) out.told later.told (shown old out handed counts) (shown new later handed_later counts_later) end replayed.ends leaves front whole;
      breaks = breaks_by image recording replayed.entries replayed.replay old new is_fresh none few went events (upcoming new) (shown old out handed counts) (shown new later handed_later counts_later) out.told later.told end refl replayed.ends leaves whole;
    }

-- and what differs from the record
pub compares : (image : Image) (recording : Recorded) (old new : Intake) (out later : Output) (handed handed_later : Option Handed) (counts counts_later : Counts) (end : Answer) (found : Option Difference) (before after counted : ℕ) → IsFresh old.phases → old.took ≡ 0
    → out.wrote ≡ 0 → old.takes ≡ true → out.gives ≡ true → Countable new.told → Short later.told → (shown old out handed counts).told ≡ told_nothing old.told out.told → TakesOn old.takes old new → GivesOn out.gives out later
    → LeavesLink (shown old out handed counts) (shown new later handed_later counts_later) end
    → (has : HasReplayedBy image recording (shown old out handed counts) (shown new later handed_later counts_later) (WritesFront out.told later.told) end before after)
    → TellsDifference recording has.replayed.entries has.replayed.replay end found → after ≡ before + counted → ComparesTrunk image recording old.told new.told out.told later.told end found counted
unfolding replays
compares image recording old new out later handed handed_later counts counts_later end found before after counted is_fresh none nothing takes gives few short start taken_on given_on leaves has differs count = record {
  replays = replays image recording old new out later handed handed_later counts counts_later end before after counted is_fresh none nothing takes gives few short start taken_on given_on leaves has count;
  differs = differs;
}

-- and the answers of the allocator that it used
pub fills : (image : Image) (recording : Recorded) (old new : Intake) (out later : Output) (handed handed_later : Option Handed) (counts counts_later : Counts) (end : Answer) (found : Option Difference) (choices : List Choice) (before after counted : ℕ) → IsFresh old.phases → old.took ≡ 0
    → out.wrote ≡ 0 → old.takes ≡ true → out.gives ≡ true → Countable new.told → Short later.told → (shown old out handed counts).told ≡ told_nothing old.told out.told → TakesOn old.takes old new → GivesOn out.gives out later
    → LeavesLink (shown old out handed counts) (shown new later handed_later counts_later) end
    → (has : HasReplayedBy image recording (shown old out handed counts) (shown new later handed_later counts_later) (WritesFront out.told later.told) end before after)
    → TellsDifference recording has.replayed.entries has.replayed.replay end found → choices ≡ has.replayed.replay.choices → after ≡ before + counted
    → (is : ComparesTrunk image recording old.told new.told out.told later.told end found counted) × (choices ≡ is.replays.replay.choices)
unfolding replays compares
fills image recording old new out later handed handed_later counts counts_later end found choices before after counted is_fresh none nothing takes gives few short start taken_on given_on leaves has differs all count = (
  compares image recording old new out later handed handed_later counts counts_later end found before after counted is_fresh none nothing takes gives few short start taken_on given_on leaves has differs count,
  all,
)
