use Rattle.command_line.proofs.Terms.{ap, refl, subst, sym, ◌∙◌, ◌≡◌, conns_row, env_row, form_row, frame_row, guard_row, port_row, record_row, report_row, stopped_by_row, value_of, guard_of, may_stop, serve_form, serve_value, session_value, AreInRange}
use Rattle.command_line.proofs.Numbers.{small_read}
use Rattle.command_line.proofs.Ranges.{session_in_range}
use Rattle.command_line.proofs.serve_words.serve_from.Goals as goal

pub returns : goal.returns
unfolding serve_value serve_form conns_row env_row form_row frame_row guard_row port_row record_row report_row stopped_by_row
returns c =
    λ p read ranges i.
    let options = read.options in
    let guard : c.guard_of.result ≡ guard_of (value_of guard_row p.options) = c.guard_of.ensures ∙ ap guard_of (c.value_in.ensures _ options.1.1.1.1.1.1.1.1.1.1.1.0) in record {
      session =
          (c.session_from.ensures p (record {
            program = read.names.0;
            options = (options.0, (options.1.0, (options.1.1.0, (options.1.1.1.0, (options.1.1.1.1.0, (options.1.1.1.1.1.0, (options.1.1.1.1.1.1.0, (options.1.1.1.1.1.1.1.0, (options.1.1.1.1.1.1.1.1.0, (options.1.1.1.1.1.1.1.1.1.0, (options.1.1.1.1.1.1.1.1.1.1.0, tt)))))))))));
          }) (subst (λ g. AreInRange (session_value 0 g p)) (sym guard) (session_in_range (serve_value p) (ranges, refl)))
          ∙ ap (λ g. session_value 0 g p) guard) i;
      port = small_read _ _ _ _ (c.value_in-2.ensures _ read.names.1.0) c.number_or_zero.ensures ranges.0.1 refl i;
      conns = small_read _ _ _ _ (c.value_in-3.ensures _ read.names.1.1.0) c.number_or_zero-2.ensures ranges.1.0.1 refl i;
      patience = small_read _ _ _ _ (c.value_in-4.ensures _ options.1.1.1.1.1.1.1.1.1.1.1.1.0) c.number_or_zero-3.ensures ranges.1.1.1.1.1.1.1.1.0.1 refl i;
      at_once = small_read _ _ _ _ (c.value_in-5.ensures _ options.1.1.1.1.1.1.1.1.1.1.1.1.1.0) c.number_or_zero-4.ensures ranges.1.1.1.1.1.1.1.1.1.0.1 refl i;
      stops = (c.may_stop.ensures ∙ ap may_stop (c.value_in-6.ensures _ options.1.1.1.1.1.1.1.1.1.1.1.1.1.1.0)) i;
      drain = small_read _ _ _ _ (c.value_in-7.ensures _ options.1.1.1.1.1.1.1.1.1.1.1.1.1.1.1.0) c.number_or_zero-5.ensures ranges.1.1.1.1.1.1.1.1.1.1.0.1 refl i;
    }
