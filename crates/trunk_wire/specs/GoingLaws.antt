-- A trunk that goes on twice goes on.
use Rattle.std.proofs.Common.{◌≡◌, ℕ, Bool, true, false, List, [], ◌∷◌, ◌++◌, length, Option, arith, append_assoc, append-nil, length-append, refl, sym, ap, ◌∙◌, subst}
use Rattle.std.proofs.Math.Path.{fun_ext}
use Rattle.std.proofs.lemmas.List.Elements.{All-append, All-nil}
use Rattle.std.proofs.lemmas.Grind.{flat_map-append}
use Rattle.trunk_wire.specs.Terms.{IsDrained, Stream, LinkEvent, Phases, Piece, phases_after, IsSound}
use Rattle.trunk_wire.specs.CallLaws.{reads_nothing, reads_more, writes_nothing, writes_more}
use Rattle.trunk_wire.specs.Calls.{Reads, Writes, count_after}
use Rattle.trunk_wire.specs.Frames.{AreFramesOf, piece_frame, frames}
use Rattle.trunk_wire.specs.Going.{AreInOrder, phases_behind, Intake, IsTail, TookFrames, TakesOn, Output, IsFramed, IsCut, WroteFrames, GivesOn}
use Rattle.links.specs.TableLaws.{open_gives, open_below}
use Rattle.trunk_wire.specs.TrunkLinks.{TrunkWent, seen_of, intake_of, output_of}
use Rattle.trunk_wire.specs.declared.trunk_link.TrunkLink.{TrunkLink}

are_frames-append : (events more : List LinkEvent) (bytes behind : List ℕ) → AreFramesOf events bytes → AreFramesOf more behind → AreFramesOf (events ++ more) (bytes ++ behind)
are_frames-append [] more bytes behind none are = subst (AreFramesOf more) (sym (ap (λ l. l ++ behind) none)) are
are_frames-append (first ∷ events) more bytes behind (front, rest, is, one, are) more_are =
    (front, rest ++ behind, ap (λ l. l ++ behind) is ∙ append_assoc front rest behind, one, are_frames-append events more rest behind are more_are)

phases_behind-append : (events more : List LinkEvent) (phases : Phases) → phases_behind (events ++ more) phases ≡ phases_behind more (phases_behind events phases)
phases_behind-append [] more phases = refl
phases_behind-append (first ∷ events) more phases = phases_behind-append events more (phases_after first phases)

in_order-append : (phases : Phases) (events more : List LinkEvent) → AreInOrder phases events → AreInOrder (phases_behind events phases) more → AreInOrder phases (events ++ more)
in_order-append phases [] more order more_order = more_order
in_order-append phases (first ∷ events) more order more_order = (order.0, in_order-append (phases_after first phases) events more order.1 more_order)

-- no frame was taken
took_none : (intake : Intake) → intake.takes ≡ true → TookFrames intake intake
took_none intake takes = record {
  events = [];
  whole = [];
  tail = [];
  order = tt;
  phases = λ conn. refl;
  are = refl;
  reads = reads_nothing intake.told intake.took;
  is_tail = subst (λ b. IsTail intake.phases (IsDrained intake.told) (count_after intake.took 0) b intake.refused []) (sym takes) refl;
}

-- no frame was written
wrote_none : (output : Output) → output.gives ≡ true → WroteFrames output output
wrote_none output gives = record {
  pieces = [];
  tail = [];
  framed = All-nil IsFramed;
  writes = writes_nothing output.told output.wrote;
  cut = subst (λ b. IsCut b output.handed []) (sym gives) refl;
}

-- frames were taken, and then more
took_frames : (first second third : Intake) → second.takes ≡ true → TookFrames first second → TookFrames second third → TookFrames first third
took_frames first second third takes one two =
    let none : one.tail ≡ [] =
    subst (λ b. IsTail (phases_behind one.events first.phases) (IsDrained second.told) (count_after first.took (length one.whole)) b second.refused one.tail) takes one.is_tail in
    let read : Reads first.told second.told first.took second.took one.whole =
    subst (Reads first.told second.told first.took second.took) (ap (λ l. one.whole ++ l) none ∙ append-nil one.whole) one.reads in
    let between : second.phases ≡ phases_behind one.events first.phases = fun_ext one.phases in
    let behind : phases_behind two.events second.phases ≡ phases_behind (one.events ++ two.events) first.phases =
    ap (phases_behind two.events) between ∙ sym (phases_behind-append one.events two.events first.phases) in
    let offset : count_after second.took (length two.whole) ≡ count_after first.took (length (one.whole ++ two.whole)) =
    omega (arith, read.count, length-append one.whole two.whole) in record {
      events = one.events ++ two.events;
      whole = one.whole ++ two.whole;
      tail = two.tail;
      order = in_order-append first.phases one.events two.events one.order (subst (λ phases. AreInOrder phases two.events) between two.order);
      phases = λ conn. two.phases conn ∙ ap (λ phases. phases conn) behind;
      are = are_frames-append one.events two.events one.whole two.whole one.are two.are;
      reads = subst (Reads first.told third.told first.took third.took) (sym (append_assoc one.whole two.whole two.tail))
          (reads_more first.told second.told third.told first.took second.took third.took one.whole (two.whole ++ two.tail) read two.reads);
      is_tail = subst (λ phases. IsTail phases (IsDrained third.told) (count_after first.took (length (one.whole ++ two.whole))) third.takes third.refused two.tail) behind
          (subst (λ count. IsTail (phases_behind two.events second.phases) (IsDrained third.told) count third.takes third.refused two.tail) offset two.is_tail);
    }

-- frames were written, and then more
wrote_frames : (first second third : Output) → second.gives ≡ true → WroteFrames first second → WroteFrames second third → WroteFrames first third
wrote_frames first second third gives one two =
    let none : one.tail ≡ [] = subst (λ b. IsCut b second.handed one.tail) gives one.cut in
    let wrote : Writes first.told second.told first.wrote second.wrote (frames one.pieces) =
    subst (Writes first.told second.told first.wrote second.wrote) (ap (λ l. frames one.pieces ++ l) none ∙ append-nil (frames one.pieces)) one.writes in
    let joined : frames one.pieces ++ (frames two.pieces ++ two.tail) ≡ frames (one.pieces ++ two.pieces) ++ two.tail =
    sym (append_assoc (frames one.pieces) (frames two.pieces) two.tail)
    ∙ ap (λ l. l ++ two.tail) (sym (flat_map-append (λ (piece : Piece). piece_frame piece.conn piece.bytes) one.pieces two.pieces)) in record {
      pieces = one.pieces ++ two.pieces;
      tail = two.tail;
      framed = All-append IsFramed one.pieces two.pieces one.framed two.framed;
      writes = subst (Writes first.told third.told first.wrote third.wrote) joined
          (writes_more first.told second.told third.told first.wrote second.wrote third.wrote (frames one.pieces) (frames two.pieces ++ two.tail) wrote two.writes);
      cut = two.cut;
    }

-- a link that took nothing between has gone on
pub takes_same : (takes : Bool) (intake : Intake) → intake.takes ≡ takes → TakesOn takes intake intake
takes_same true intake is = took_none intake is
takes_same false intake is = refl

-- a link that gave nothing between has gone on
pub gives_same : (gives : Bool) (output : Output) → output.gives ≡ gives → GivesOn gives output output
gives_same true output is = wrote_none output is
gives_same false output is = refl

takes_on : (takes later : Bool) (first second third : Intake) → first.takes ≡ takes → second.takes ≡ later → TakesOn takes first second → TakesOn later second third → TakesOn takes first third
takes_on true true first second third first_is second_is one two = took_frames first second third second_is one two
takes_on true false first second third first_is second_is one two = subst (TookFrames first) (sym two) one
takes_on false true first second third first_is second_is one two = let same : second.takes ≡ first.takes = ap (λ intake. intake.takes) one in cc
takes_on false false first second third first_is second_is one two = two ∙ one

gives_on : (gives later : Bool) (first second third : Output) → first.gives ≡ gives → second.gives ≡ later → GivesOn gives first second → GivesOn later second third → GivesOn gives first third
gives_on true true first second third first_is second_is one two = wrote_frames first second third second_is one two
gives_on true false first second third first_is second_is one two = subst (WroteFrames first) (sym two) one
gives_on false true first second third first_is second_is one two = let same : second.gives ≡ first.gives = ap (λ output. output.gives) one in cc
gives_on false false first second third first_is second_is one two = two ∙ one

-- what a link over a trunk shows is sound at each moment
pub trunk_sound : {S K : Type 0} (source_told : S → Option Stream) (source_faults : S → ℕ) (sink_told : K → Option (List ℕ)) (sink_faults : K → ℕ) (link : TrunkLink S K) → IsSound (seen_of source_told source_faults sink_told sink_faults link)
trunk_sound source_told source_faults sink_told sink_faults link = record { gives_open = open_gives link.table; below = open_below link.table }

module _ {S K F G : Type 0} (source_fixed : S → F) (source_told : S → Option Stream) (sink_fixed : K → G) (sink_told : K → Option (List ℕ)) where
  pub trunk_same : (link : TrunkLink S K) → TrunkWent source_fixed source_told sink_fixed sink_told link link
  trunk_same link = record {
    source = refl;
    sink = refl;
    taken = takes_same link.takes (intake_of source_told link) refl;
    given = gives_same link.gives (output_of sink_told link) refl;
  }

  pub trunk_on : (first second third : TrunkLink S K) → TrunkWent source_fixed source_told sink_fixed sink_told first second → TrunkWent source_fixed source_told sink_fixed sink_told second third
      → TrunkWent source_fixed source_told sink_fixed sink_told first third
  trunk_on first second third one two = record {
    source = two.source ∙ one.source;
    sink = two.sink ∙ one.sink;
    taken = takes_on first.takes second.takes (intake_of source_told first) (intake_of source_told second) (intake_of source_told third) refl refl one.taken two.taken;
    given = gives_on first.gives second.gives (output_of sink_told first) (output_of sink_told second) (output_of sink_told third) refl refl one.given two.given;
  }
