-- What the words leave where memory ran out while they were read: whatever command they ask for, nothing was touched.
use Rattle.run_history.specs.declared.answer.Answer.TheVariants as answer
use Rattle.trunk_text.specs.declared.turning.Ended.TheVariants as ended
use Rattle.trunk_text.specs.Turns.{Moved}
use Rattle.rx_serve.proofs.Terms.{List, None, Option, Some, [], arith, inl, refl, rules, subst, sym, ◌-◌, ◌≡◌, PortEntry, framing, Turned, Way, unframing, Answer, DrillEnds, CommandValue, asm, convert, diagnose, drill, frame, replay, resume, run, serve, standby, unframe, End, Outside, HasNoSession, CallsConvert, replayed, HasReplayCause, HasTakeoverCause, HasHandoverCause, TurnsInput}
use Rattle.rx_serve.specs.Commands.{Ends}

nothing_moved : (old : Outside) → Moved old.input old.input old.output old.output [] []
nothing_moved old = record { took = search rules; wrote = search rules }

none_turned : (way : Way) → Turned way [] []
none_turned way = record { pairs = []; each = search rules; from_is = refl; to_is = refl }

nothing_turned : (way : Way) (old : Outside) (end : End) → way.IsPart [] → end.answer ≡ answer.Memory → HasNoSession end → TurnsInput way old old end
nothing_turned way old end part is nothing = record {
  ended = ended.Memory;
  answered = is;
  goes = ([], [], none_turned way, inl ([], [], part, omega arith, nothing_moved old));
  untouched = refl;
  nothing = nothing;
}

pub memory_ends : (asked : Option CommandValue) (before : Option (List PortEntry)) (old : Outside) (end : End) → (asked ≡ None → ⊥) → end.answer ≡ answer.Memory → HasNoSession end → end.difference ≡ None → Ends asked before before old old end
memory_ends None before old end some is nothing none = absurd (some refl)
memory_ends (Some (run value)) before old end some is nothing none = search (rules, is, nothing)
memory_ends (Some (asm value)) before old end some is nothing none = search (rules, is, nothing)
memory_ends (Some (replay value)) before old end some is nothing none = record {
  replays = inl (record { cause = subst (λ (a : Answer). HasReplayCause old.files value a) (sym is) tt; untouched = refl });
  differs = none;
  called = search rules;
  same_files = refl;
  nothing = nothing;
}
memory_ends (Some (convert value)) before old end some is nothing none = record {
  converts = inl (record { cause = subst (λ (a : Answer). HasReplayCause old.files (replayed value) a) (sym is) tt; same_files = refl; untouched = refl });
  differs = none;
  called = subst (λ (a : Answer). CallsConvert value old.calls old.calls a) (sym is) (search rules);
  same_output = refl;
  nothing = nothing;
}
memory_ends (Some (standby value)) before old end some is nothing none =
    inl (record {
      cause = subst (λ (a : Answer). HasTakeoverCause old.files value a) (sym is) tt;
      same_files = refl;
      called = search rules;
      untouched = refl;
      nothing = nothing;
      differs = none;
    })
memory_ends (Some (resume value)) before old end some is nothing none =
    inl (record { cause = subst (λ (a : Answer). HasHandoverCause old.files value a) (sym is) tt; same_files = refl; called = search rules; untouched = refl; nothing = nothing })
memory_ends (Some (serve value)) before old end some is nothing none = search (rules, is, nothing)
memory_ends (Some (diagnose value)) before old end some is nothing none = search (rules, is, nothing)
memory_ends (Some (drill value)) before old end some is nothing none = record {
  counted = omega arith;
  drilled = subst (DrillEnds value.seed value.count (old.counter - old.counter) old.output old.output) (sym is) (inl refl);
  untouched = refl;
  nothing = nothing;
}
memory_ends (Some frame) before old end some is nothing none = nothing_turned framing old end (search rules) is nothing
memory_ends (Some unframe) before old end some is nothing none = nothing_turned unframing old end tt is nothing
