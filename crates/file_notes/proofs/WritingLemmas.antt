-- Texts that are written into one file and into both.
use Rattle.std.proofs.Common.{unwrap_or}
use Rattle.file_notes.proofs.Terms.{Err, List, None, Ok, Option, Result, Some, [], ap, inl, inr, length, subst, sym, take, ℕ, ◌++◌, ◌∙◌, ◌≡◌, take-append_seam, take-length, ◌≢◌, IoFault, Adds, Contents, Starts, AreTwo, Names, Copied, Emptied, HasPart, Kept, TakesOverBoth, Unbegun, Writes, WritesBoth, all_kept, nothing_kept}

-- what a part of a text is, by its length
pub front_is : (front rest text : List ℕ) → text ≡ front ++ rest → take (length front) text ≡ front
front_is front rest text is = ap (λ l. take (length front) l) is ∙ take-append_seam front rest

-- bytes were added
pub adds_one : (old new : Option Contents) (name text : List ℕ) (result : Result (Unit {0}) IoFault)
    → Adds old new name text result → Writes all_kept old new name text result
adds_one None new name text result added = tt
adds_one (Some old) None name text result added = absurd added
adds_one (Some old) (Some new) name text (Ok done) added = added
adds_one (Some old) (Some new) name text (Err fault) (inl same) = record { here = inl same.here; others = same.others }
adds_one (Some old) (Some new) name text (Err fault) (inr (front, rest, is, added)) = record {
  here = inr (length front, added.here ∙ ap (λ l. Some (unwrap_or (old name) [] ++ l)) (sym (front_is front rest text is)));
  others = added.others;
}

-- a file was started, and bytes were added to it
pub starts_one : (old mid new : Option Contents) (name text : List ℕ) (result : Result (Unit {0}) IoFault)
    → Starts old mid name (Ok tt) → Adds mid new name text result → Writes nothing_kept old new name text result
starts_one None mid new name text result started added = tt
starts_one (Some old) None new name text result started added = absurd started
starts_one (Some old) (Some mid) None name text result started added = absurd added
starts_one (Some old) (Some mid) (Some new) name text (Ok done) started added = record {
  here = added.here ∙ ap (λ file. Some (unwrap_or file [] ++ text)) started.here;
  others = λ other differs. added.others other differs ∙ started.others other differs;
}
starts_one (Some old) (Some mid) (Some new) name text (Err fault) started (inl same) = record {
  here = inr (0, same.here ∙ started.here);
  others = λ other differs. same.others other differs ∙ started.others other differs;
}
starts_one (Some old) (Some mid) (Some new) name text (Err fault) started (inr (front, rest, is, added)) = record {
  here = inr (length front, added.here ∙ ap (λ file. Some (unwrap_or file [] ++ front)) started.here ∙ ap Some (sym (front_is front rest text is)));
  others = λ other differs. added.others other differs ∙ started.others other differs;
}

module _ (kept : Kept) (names : Names) (of_record of_report : List ℕ) where
  -- the record's text was written, and then the report's, or a part of it
  pub both : AreTwo names → (old mid new : Option Contents) (result : Result (Unit {0}) IoFault)
      → Writes kept old mid names.record_name of_record (Ok tt) → Writes kept mid new names.report_name of_report result
      → WritesBoth kept names of_record of_report old new result
  both two None mid new result first second = tt
  both two (Some old) None new result first second = absurd first
  both two (Some old) (Some mid) None result first second = absurd second
  both two (Some old) (Some mid) (Some new) (Ok done) first second = record {
    record_has = second.others names.record_name two ∙ first.here;
    report_has = second.here ∙ ap (λ file. Some (kept file ++ of_report)) (first.others names.report_name (λ same. two (sym same)));
    others = λ other from_record from_report. second.others other from_report ∙ first.others other from_record;
  }
  both two (Some old) (Some mid) (Some new) (Err fault) first second =
      let before : mid names.report_name ≡ old names.report_name = first.others names.report_name (λ same. two (sym same)) in
      let has : new names.record_name ≡ Some (kept (old names.record_name) ++ of_record) = second.others names.record_name two ∙ first.here in
      record {
        record_part = inr (length of_record, has ∙ ap (λ l. Some (kept (old names.record_name) ++ l)) (sym (take-length of_record)));
        report_part = inr (has, subst (λ (file : Option (List ℕ)). HasPart kept of_report file (new names.report_name)) before second.here);
        others = λ other from_record from_report. second.others other from_report ∙ first.others other from_record;
      }

-- ---- a session that takes over

module _ (names : Names) (of_record of_report : List ℕ) (two : AreTwo names) where
  not_report : names.report_name ≢ names.record_name
  not_report same = two (sym same)

  -- the record wasn't emptied, or no more than that was done
  pub over_none : (old new : Option Contents) (fault : IoFault) → Starts old new names.record_name (Err fault) → TakesOverBoth names of_record of_report old new (Err fault)
  over_none None new fault started = tt
  over_none (Some old) None fault started = absurd started
  over_none (Some old) (Some new) fault (inl same) = record {
    begun = Unbegun same.here (same.others names.report_name not_report);
    others = λ other from_record from_report. same.others other from_record;
  }
  over_none (Some old) (Some new) fault (inr empty) = record {
    begun = Emptied empty.here (inl (empty.others names.report_name not_report));
    others = λ other from_record from_report. empty.others other from_record;
  }

  -- it was, and the report wasn't written whole
  pub over_part : (old mid new : Option Contents) (fault : IoFault) → Starts old mid names.record_name (Ok tt) → Writes nothing_kept mid new names.report_name of_report (Err fault)
      → TakesOverBoth names of_record of_report old new (Err fault)
  over_part None mid new fault started written = tt
  over_part (Some old) None new fault started written = absurd started
  over_part (Some old) (Some mid) None fault started written = absurd written
  over_part (Some old) (Some mid) (Some new) fault started written = record {
    begun =
        Emptied (written.others names.record_name two ∙ started.here)
        (subst (λ (file : Option (List ℕ)). HasPart nothing_kept of_report file (new names.report_name)) (started.others names.report_name not_report) written.here);
    others = λ other from_record from_report. written.others other from_report ∙ started.others other from_record;
  }

  -- it was, and then the record got its text, or a part of it
  pub over_all : (old mid later new : Option Contents) (result : Result (Unit {0}) IoFault) → Starts old mid names.record_name (Ok tt) → Writes nothing_kept mid later names.report_name of_report (Ok tt)
      → Writes all_kept later new names.record_name of_record result → TakesOverBoth names of_record of_report old new result
  over_all None mid later new result started written added = tt
  over_all (Some old) None later new result started written added = absurd started
  over_all (Some old) (Some mid) None new result started written added = absurd written
  over_all (Some old) (Some mid) (Some later) None result started written added = absurd added
  over_all (Some old) (Some mid) (Some later) (Some new) (Ok done) started written added =
      let empty : later names.record_name ≡ Some [] = written.others names.record_name two ∙ started.here in
      record {
        record_has = added.here ∙ ap (λ file. Some (unwrap_or file [] ++ of_record)) empty;
        report_has = added.others names.report_name not_report ∙ written.here;
        others = λ other from_record from_report. added.others other from_record ∙ written.others other from_report ∙ started.others other from_record;
      }
  over_all (Some old) (Some mid) (Some later) (Some new) (Err fault) started written added =
      let empty : later names.record_name ≡ Some [] = written.others names.record_name two ∙ started.here in
      let whole : new names.report_name ≡ Some of_report = added.others names.report_name not_report ∙ written.here in
      record {
        begun = elim added.here [
          | inl same ↦ Copied 0 (same ∙ empty) whole
          | inr part ↦ Copied part.0 (part.1 ∙ ap (λ file. Some (unwrap_or file [] ++ take part.0 of_record)) empty) whole
        ];
        others = λ other from_record from_report. added.others other from_record ∙ written.others other from_report ∙ started.others other from_record;
      }
