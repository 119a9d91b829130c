use Rattle.command_line.proofs.Terms.{ap, refl, ◌∙◌, env_row, form_row, frame_row, record_row, report_row, env_of, form_of, frame_of}
use Rattle.command_line.proofs.Numbers.{number_read, small_read}
use Rattle.command_line.proofs.run_words.session_from.Goals as goal

pub returns : goal.returns
unfolding env_row form_row frame_row record_row report_row
returns c =
    λ p read ranges i. record {
      program = c.value_in.ensures _ read.program i;
      recording = c.value_in-2.ensures _ read.options.0 i;
      report = c.value_in-3.ensures _ read.options.1.0 i;
      form = (c.form_of.ensures ∙ ap form_of (c.value_in-4.ensures _ read.options.1.1.0)) i;
      frame = (c.frame_of.ensures ∙ ap frame_of (c.value_in-5.ensures _ read.options.1.1.1.0)) i;
      window = small_read _ _ _ _ (c.value_in-6.ensures _ read.options.1.1.1.1.0) c.number_or_zero.ensures ranges.0.1 refl i;
      hold = c.args.hold;
      ring = small_read _ _ _ _ (c.value_in-7.ensures _ read.options.1.1.1.1.1.0) c.number_or_zero-2.ensures ranges.1.1.0.1 refl i;
      every = small_read _ _ _ _ (c.value_in-8.ensures _ read.options.1.1.1.1.1.1.0) c.number_or_zero-3.ensures ranges.1.1.1.0.1 refl i;
      frames = small_read _ _ _ _ (c.value_in-9.ensures _ read.options.1.1.1.1.1.1.1.0) c.number_or_zero-4.ensures ranges.1.1.1.1.0.1 refl i;
      budget = (c.long_or_zero.ensures ∙ ap number_read (c.value_in-10.ensures _ read.options.1.1.1.1.1.1.1.1.0)) i;
      keep = small_read _ _ _ _ (c.value_in-11.ensures _ read.options.1.1.1.1.1.1.1.1.1.0) c.number_or_zero-5.ensures ranges.1.1.1.1.1.1.0.1 refl i;
      env = (c.env_of.ensures ∙ ap env_of (c.value_in-12.ensures _ read.options.1.1.1.1.1.1.1.1.1.1.0)) i;
      guard = c.args.guard;
    }
