use Rattle.command_line.proofs.Terms.{ap, refl, subst, sym, ◌∙◌, ◌≡◌, diagnose_guard_row, diagnosis_row, env_row, form_row, frame_row, record_row, report_row, static_row, number_at, value_of, diagnose_form, diagnose_value, guard_of, session_value, AreInRange}
use Rattle.command_line.specs.declared.run_words.TheConstants as table
use Rattle.command_line.proofs.Numbers.{small_read}
use Rattle.command_line.proofs.diagnose_words.diagnose_from.Goals as goal

pub returns : goal.returns
unfolding diagnose_value diagnose_form diagnosis_row env_row form_row frame_row diagnose_guard_row record_row report_row
returns c =
    λ p read ranges i.
    let options = read.options in
    let hold : c.number_or_zero.result ≡ number_at (static_row table.HOLD) p.options = small_read _ _ _ _ (c.value_in.ensures _ options.1.1.1.1.1.1.0) c.number_or_zero.ensures ranges.1.0.1 refl in
    let guard : c.guard_of.result ≡ guard_of (value_of diagnose_guard_row p.options) = c.guard_of.ensures ∙ ap guard_of (c.value_in-2.ensures _ options.1.1.1.1.1.1.1.1.1.1.1.1.1.0) in record {
      session =
          (c.session_from.ensures p (record {
            program = read.names.0;
            options = (options.0, (options.1.0, (options.1.1.1.0, (options.1.1.1.1.0, (options.1.1.1.1.1.0, (options.1.1.1.1.1.1.1.0, (options.1.1.1.1.1.1.1.1.0, (options.1.1.1.1.1.1.1.1.1.0, (options.1.1.1.1.1.1.1.1.1.1.0, (options.1.1.1.1.1.1.1.1.1.1.1.0, (options.1.1.1.1.1.1.1.1.1.1.1.1.0, tt)))))))))));
          }) (subst (λ n. AreInRange (session_value n c.guard_of.result p)) (sym hold) (subst (λ g. AreInRange (session_value (number_at (static_row table.HOLD) p.options) g p)) (sym guard) ranges))
          ∙ ap (λ n. session_value n c.guard_of.result p) hold
          ∙ ap (λ g. session_value (number_at (static_row table.HOLD) p.options) g p) guard) i;
      diagnosis = c.value_in-3.ensures _ options.1.1.0 i;
    }
