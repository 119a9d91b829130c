-- What a trunk link has.
use Rattle.std.specs.Prelude.{◌≡◌, ℕ, List, length, Option, None, Some, Result}
use Rattle.links.specs.LinkForms.{handed_by, gives_below_4096}
use Rattle.trunk_wire.specs.Terms.{Stream, Given, LinkEvent, LinkFault, phases_in, Coming, Counts, Phases, Told, Seen}
use Rattle.trunk_wire.specs.Calls.{TakesFrame, WritesFrame, HasOffset}
use Rattle.trunk_wire.specs.Tellings.{told_events, told_pieces, told_coming, trunk_told, refusal_in}
use Rattle.trunk_wire.specs.Going.{Intake, Output, TakesOn, GivesOn}
use Rattle.trunk_wire.specs.declared.refusal.Refusal.{Refusal}
use Rattle.trunk_wire.specs.declared.trunk_link.TrunkLink.{TrunkLink}

module _ {S K : Type 0} where
  -- what a link takes bytes of, and what it writes bytes to
  abbrev pub source_of : TrunkLink S K → S
  source_of link = link.source

  abbrev pub sink_of : TrunkLink S K → K
  sink_of link = link.sink

  -- how many bytes the link took of its source, and how many it wrote to its sink
  abbrev pub took_of : TrunkLink S K → ℕ
  took_of link = link.took

  abbrev pub wrote_of : TrunkLink S K → ℕ
  wrote_of link = link.wrote

  -- whether each connection of a link never opened, is open, or closed
  abbrev pub trunk_phases : TrunkLink S K → Phases
  trunk_phases link = phases_in link.table

  -- the refusal behind which the link takes no events
  abbrev pub trunk_refused : TrunkLink S K → Option Refusal
  trunk_refused link = link.refused

  -- what the link tells, comes to, counts and shows, by what its source and its sink tell and count
  abbrev pub told_of : (S → Option Stream) → (K → Option (List ℕ)) → TrunkLink S K → Told
  told_of source_told sink_told link =
      trunk_told (told_events (source_told link.source) link.took (phases_in link.table) link.takes) (told_pieces (sink_told link.sink) link.wrote link.gives)

  abbrev pub coming_of : (S → Option Stream) → TrunkLink S K → Option Coming
  coming_of source_told link = told_coming (source_told link.source) link.took (phases_in link.table) link.takes link.refused

  abbrev pub counts_of : (S → ℕ) → (K → ℕ) → TrunkLink S K → Counts
  counts_of source_faults sink_faults link = record { takes = source_faults link.source; gives = sink_faults link.sink; gones = 0 }

  abbrev pub seen_of : (S → Option Stream) → (S → ℕ) → (K → Option (List ℕ)) → (K → ℕ) → TrunkLink S K → Seen
  seen_of source_told source_faults sink_told sink_faults link = record {
    told = told_of source_told sink_told link;
    phases = trunk_phases link;
    coming = coming_of source_told link;
    handed = handed_by link.handed;
    gives_to = gives_below_4096;
    takes = link.takes;
    gives = link.gives;
    counts = counts_of source_faults sink_faults link;
  }

  -- a link of which no call was made yet
  pub record IsFreshTrunk (source : S) (sink : K) (link : TrunkLink S K) : Type 0 where
    pub source_is : link.source ≡ source
    pub sink_is : link.sink ≡ sink
    pub took : link.took ≡ 0
    pub wrote : link.wrote ≡ 0
    pub refused : link.refused ≡ None

  -- what a link took of its source, and what it wrote to its sink
  abbrev pub intake_of : (S → Option Stream) → TrunkLink S K → Intake
  intake_of source_told link = record { told = source_told link.source; took = link.took; phases = phases_in link.table; takes = link.takes; refused = link.refused }

  abbrev pub output_of : (K → Option (List ℕ)) → TrunkLink S K → Output
  output_of sink_told link = record { told = sink_told link.sink; wrote = link.wrote; handed = handed_by link.handed; gives = link.gives }

-- a link goes on over the same source and the same sink, takes frames and writes frames
pub record TrunkWent {S K F G : Type 0} (source_fixed : S → F) (source_told : S → Option Stream) (sink_fixed : K → G) (sink_told : K → Option (List ℕ)) (old new : TrunkLink S K) : Type 0 where
  pub source : source_fixed new.source ≡ source_fixed old.source
  pub sink : sink_fixed new.sink ≡ sink_fixed old.sink
  pub taken : TakesOn old.takes (intake_of source_told old) (intake_of source_told new)
  pub given : GivesOn old.gives (output_of sink_told old) (output_of sink_told new)

module _ {S K : Type 0} where
  -- the next frame was taken of the source, by the answer; the sink isn't touched
  pub record NextTakes (source_told : S → Option Stream) (old new : TrunkLink S K) (result : Result LinkEvent LinkFault) : Type 0 where
    pub frame : TakesFrame (trunk_phases old) (source_told old.source) (source_told new.source) old.took new.took result
    pub offset : HasOffset old.took result
    pub refused : new.refused ≡ refusal_in result
    pub sink : new.sink ≡ old.sink
    pub wrote : new.wrote ≡ old.wrote

  -- a frame was written to the sink, by the answer; the source isn't touched
  pub record GiveWrites (sink_told : K → Option (List ℕ)) (old new : TrunkLink S K) (conn : ℕ) (bytes : List ℕ) (result : Result Given LinkFault) : Type 0 where
    pub frame : WritesFrame (sink_told old.sink) (sink_told new.sink) old.wrote new.wrote conn bytes result
    pub handed : new.handed ≡ Some (conn, length bytes)
    pub source : new.source ≡ old.source
    pub took : new.took ≡ old.took
    pub refused : new.refused ≡ old.refused
