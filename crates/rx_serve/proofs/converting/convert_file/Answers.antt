use Rattle.run_history.specs.declared.answer.Answer.TheVariants as answer
use Rattle.rx_serve.proofs.Lemmas.{convert_broken, convert_none, convert_written, no_read_cause, no_write_cause, as_replay, leaves_text, not_file_fault, not_read_of_writes, not_write_of_writes}
use Rattle.rx_serve.proofs.Terms.{List, Ok, ap, arith, inl, inr, refl, rules, subst, sym, ℕ, ◌-◌, Err, IsErrOf, Result, Answer, ComparesConverted, ConvertsTrunk, convert_shown, outside}
use Rattle.rx_serve.proofs.converting.convert_file.Goals as goal

-- ---- no run began

pub returns-in-Err-clause-converts : goal.returns-in-Err-clause-converts
returns-in-Err-clause-converts g c = λ output. record { converts = inl (record { cause = c.in-Err.ensures.loads; same_files = c.in-Err.ensures.same; untouched = refl }); differs = refl }

pub returns-in-Err-clause-calls : goal.returns-in-Err-clause-calls
returns-in-Err-clause-calls g c = convert_none (convert_shown c.args.convert.now) _ _ _ c.in-Err.answer c.in-Err.ensures.loads c.in-Err.ensures.calls

pub returns-in-Err-clause-faults : goal.returns-in-Err-clause-faults
returns-in-Err-clause-faults g c = λ output. record {
  file_fault = search rules;
  read_fault = λ is. absurd (no_read_cause _ _ c.in-Err.answer c.in-Err.ensures.loads is);
  write_fault = λ is. absurd (no_write_cause _ _ c.in-Err.answer c.in-Err.ensures.loads is);
}

-- ---- a run has a text

pub returns-in-Ok-text-clause-converts : goal.returns-in-Ok-text-clause-converts
returns-in-Ok-text-clause-converts g c =
    let more = c.convert_trunk-converted.ensures.counted_more in
    let counted : ℕ = c.convert_trunk-converted.new.steps - c.args.steps.now in
    let all : ComparesConverted c.in-Ok.both.0 c.in-Ok.both.1 (g.S.Source.told c.args.input.now) (g.S.Source.told c.convert_trunk-converted.new.input) (Ok c.in-Ok-text.text) c.convert_trunk-converted.result.difference counted =
    subst (λ (r : Result (List ℕ) Answer). ComparesConverted c.in-Ok.both.0 c.in-Ok.both.1 (g.S.Source.told c.args.input.now) (g.S.Source.told c.convert_trunk-converted.new.input) r c.convert_trunk-converted.result.difference counted) c.in-Ok-text.is
    (c.convert_trunk-converted.ensures.converted counted (omega (arith, more))) in
    λ output. record {
      converts = inr (record {
        image = c.in-Ok.both.0;
        recorded = c.in-Ok.both.1;
        loaded = c.in-Ok.ensures.loads;
        counted = counted;
        counts = omega (arith, more);
        text = Ok c.in-Ok-text.text;
        converts = all.converts;
        leaves =
            leaves_text (convert_shown c.args.convert.now)
            (outside (g.F.Files.told c.args.files.now) (g.F.Files.calls c.args.files.now) (g.S.Source.told c.args.input.now) output c.args.steps.now)
            (outside (g.F.Files.told c.write_file.new.files) (g.F.Files.calls c.write_file.new.files) (g.S.Source.told c.convert_trunk-converted.new.input) output c.convert_trunk-converted.new.steps) c.write_file.result
            c.in-Ok.ensures.same (rw c.in-Ok-text.is at c.as_slice.ensures) c.write_file.ensures.writes;
      });
      differs = all.differs;
    }

pub returns-in-Ok-text-clause-calls : goal.returns-in-Ok-text-clause-calls
returns-in-Ok-text-clause-calls g c =
    convert_written (convert_shown c.args.convert.now) _ _ _ _ _ _ c.write_file.result c.write_file.ensures.writes c.in-Ok.ensures.calls c.write_file.ensures.calls

pub returns-in-Ok-text-clause-faults : goal.returns-in-Ok-text-clause-faults
returns-in-Ok-text-clause-faults g c = λ output. record {
  file_fault = search rules;
  read_fault = λ is. absurd (not_read_of_writes _ _ _ _ c.write_file.result c.write_file.ensures.writes is);
  write_fault = λ is. absurd (not_write_of_writes _ _ _ _ c.write_file.result c.write_file.ensures.writes is);
}

-- ---- it has none

pub returns-clause-converts : goal.returns-clause-converts
returns-clause-converts g c =
    let more = c.convert_trunk-converted.ensures.counted_more in
    let counted : ℕ = c.convert_trunk-converted.new.steps - c.args.steps.now in
    let all : ComparesConverted c.in-Ok.both.0 c.in-Ok.both.1 (g.S.Source.told c.args.input.now) (g.S.Source.told c.convert_trunk-converted.new.input) (Err c.in-Err-text.answer) c.convert_trunk-converted.result.difference counted =
    subst (λ (r : Result (List ℕ) Answer). ComparesConverted c.in-Ok.both.0 c.in-Ok.both.1 (g.S.Source.told c.args.input.now) (g.S.Source.told c.convert_trunk-converted.new.input) r c.convert_trunk-converted.result.difference counted) c.in-Err-text.is
    (c.convert_trunk-converted.ensures.converted counted (omega (arith, more))) in
    λ output. record {
      converts = inr (record {
        image = c.in-Ok.both.0;
        recorded = c.in-Ok.both.1;
        loaded = c.in-Ok.ensures.loads;
        counted = counted;
        counts = omega (arith, more);
        text = Err c.in-Err-text.answer;
        converts = all.converts;
        leaves = (refl, (c.in-Ok.ensures.same, c.in-Ok.ensures.calls));
      });
      differs = all.differs;
    }

pub returns-clause-calls : goal.returns-clause-calls
returns-clause-calls g c =
    let more = c.convert_trunk-converted.ensures.counted_more in
    let converts = subst (λ (r : Result (List ℕ) Answer). ConvertsTrunk c.in-Ok.both.0 c.in-Ok.both.1 (g.S.Source.told c.args.input.now) (g.S.Source.told c.convert_trunk-converted.new.input) r (c.convert_trunk-converted.new.steps - c.args.steps.now)) c.in-Err-text.is
    (c.convert_trunk-converted.ensures.converted (c.convert_trunk-converted.new.steps - c.args.steps.now) (omega (arith, more))).converts in
    convert_broken (convert_shown c.args.convert.now) _ _ c.in-Err-text.answer (as_replay _ _ _ _ _ c.in-Err-text.answer converts).0 c.in-Ok.ensures.calls

pub returns-clause-faults : goal.returns-clause-faults
returns-clause-faults g c =
    let more = c.convert_trunk-converted.ensures.counted_more in
    let converts = subst (λ (r : Result (List ℕ) Answer). ConvertsTrunk c.in-Ok.both.0 c.in-Ok.both.1 (g.S.Source.told c.args.input.now) (g.S.Source.told c.convert_trunk-converted.new.input) r (c.convert_trunk-converted.new.steps - c.args.steps.now)) c.in-Err-text.is
    (c.convert_trunk-converted.ensures.converted (c.convert_trunk-converted.new.steps - c.args.steps.now) (omega (arith, more))).converts in
    λ output. record {
      file_fault = λ is. absurd (not_file_fault _ _ _ _ _ c.in-Err-text.answer converts is);
      read_fault = λ is. c.convert_trunk-converted.ensures.cause.1 (subst (λ (r : Result (List ℕ) Answer). IsErrOf r answer.ReadFault) (sym c.in-Err-text.is) (ap (λ (a : Answer). Err a) is));
      write_fault = λ is. absurd ((as_replay _ _ _ _ _ c.in-Err-text.answer converts).1 is);
    }
