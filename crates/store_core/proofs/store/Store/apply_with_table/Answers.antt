use Rattle.std.proofs.Common.{rules, ◌≡◌, List, [], ◌∷◌, Err, refl, sym, ◌∙◌, ap, subst}
use Rattle.std.specs.Prelude.{is_err}
use Rattle.std.proofs.lemmas.Result.{err_from_is_err_and}
use Rattle.gopass_base.specs.Text.{Text}
use Rattle.mount_table.specs.Mounts.{IsTable}
use Rattle.mount_table.specs.declared.mounts.Row.{Row}
use Rattle.disk_model.specs.Files.{Files}
use Rattle.disk_model.specs.Disk.{IsDurable}
use Rattle.disk_model.specs.Runs.{Leaves}
use Rattle.pending_journal.specs.Change.{changed}
use Rattle.pending_journal.specs.Redo.{IsBeforeOrAfter}
use Rattle.store_state.specs.Opening.{IsFound}
use Rattle.store_state.specs.State.{StandsFor}
use Rattle.store_state.proofs.AgreeLemmas.{mounts_agree}
use Rattle.store_core.specs.WithTable.{AreWrittenWithTable, FitsMounts, IsChangeWithTable, paths_with_table, places_with_table, with_table}
use Rattle.store_core.specs.Entries.{entries_in}
use Rattle.store_core.specs.Edit.{edited}
use Rattle.store_core.specs.Moment.{Moment, moment_of, no_tools}
use Rattle.store_core.proofs.PerformLemmas.{rests_elsewhere, still_same}
use Rattle.store_core.proofs.EditLemmas.{change_makes, places_apart}
use Rattle.store_core.proofs.ApplyLemmas.{edited_state_stands, fault_caused, goes_applied, goes_failed, goes_same}
use Rattle.store_core.proofs.WithTableLemmas.{few_files, files_with, made_elsewhere, merely_applied, places_with_apart, stuck_elsewhere, with_apart, with_none, with_root, with_stands, with_written}
use Rattle.store_core.proofs.store.Store.apply_with_table.Goals as goal

pub returns-in_err-next-clause-goes : goal.returns-in_err-next-clause-goes
returns-in_err-next-clause-goes g c told opens start s =
    let self = c.args.self.now in
    let p = err_from_is_err_and c.from_residual.result c.from_residual.ensures.1 in
    rw (p.1) (goes_same opens self.vault.root start (with_table c.args.table.now (edited opens (entries_in c.args.edit.now) start) ∷ []) (moment_of self no_tools) s (self.vault.at_rest c.requires.free told))

pub returns-in_err-next-clause-elsewhere : goal.returns-in_err-next-clause-elsewhere
returns-in_err-next-clause-elsewhere g c told =
    let self = c.args.self.now in
    let now = moment_of self no_tools in
    rests_elsewhere self.vault.root (paths_with_table self.vault.root self.found.mounts (entries_in c.args.edit.now) c.args.table.now) now now (still_same self.vault.root now (self.vault.at_rest c.requires.free told))

pub returns-in_err-change-clause-goes : goal.returns-in_err-change-clause-goes
returns-in_err-change-clause-goes g c told opens start s =
    let self = c.args.self.now in
    let p = err_from_is_err_and c.from_residual-in_err-change.result c.from_residual-in_err-change.ensures.1 in
    rw (p.1) (goes_same opens self.vault.root start (with_table c.args.table.now (edited opens (entries_in c.args.edit.now) start) ∷ []) (moment_of self no_tools) s (self.vault.at_rest c.requires.free told))

pub returns-in_err-change-clause-elsewhere : goal.returns-in_err-change-clause-elsewhere
returns-in_err-change-clause-elsewhere g c told =
    let self = c.args.self.now in
    let now = moment_of self no_tools in
    rests_elsewhere self.vault.root (paths_with_table self.vault.root self.found.mounts (entries_in c.args.edit.now) c.args.table.now) now now (still_same self.vault.root now (self.vault.at_rest c.requires.free told))

pub returns-in-Err-clause-goes : goal.returns-in-Err-clause-goes
returns-in-Err-clause-goes g c told opens start s =
    let self = c.args.self.now in
    let root = self.vault.root in
    let mounts = self.found.mounts in
    let old = g.D.Disk.meaning.view self.vault.disk in
    let edit = entries_in c.args.edit.now in
    let also = c.args.table.now in
    let change = c.in_ok-change.change in
    let of = subst (λ (r : Text). IsChangeWithTable r mounts edit also c.in_ok-change.change) c.root.ensures c.in_ok-change.ensures.change in
    let table_is = subst (λ (r : Text). IsTable r mounts) c.root.ensures c.change_with_table.ensures.table in
    let after = files_with root mounts edit also old.files in
    let after_is : changed change old.files ≡ after = change_makes (places_with_table root mounts edit also) change old.files (places_with_apart root mounts edit also table_is of.good c.requires.differ) of.puts of.drops in
    let run = subst (λ (f : Files). Leaves (IsBeforeOrAfter root old.files f) old (g.D.Disk.meaning.view c.commit.new.self.disk)) after_is (c.commit.ensures.any_moment c.requires.free told) in
    let is = self.agrees c.requires.free told in
    let same = mounts_agree opens root old.files self.found start is s in
    let table = subst (λ (rows : List Row). IsTable root rows) (sym same) table_is in
    let fit = subst (λ (rows : List Row). FitsMounts rows also) (sym same) c.requires.table in
    let t = subst (λ (rows : List Row). StandsFor opens root (files_with root rows edit also old.files) (with_table also (edited opens edit start))) same
    (with_stands opens root edit also old.files start fit table (edited_state_stands opens root edit old.files start of.good table s (c.requires.fits told opens start s))) in
    let new : Moment = record {
      view = g.D.Disk.meaning.view c.commit.new.self.disk;
      faults = record { disk = g.D.Disk.meaning.faults c.commit.new.self.disk; tools = 0 };
      calls = 0;
      commits = c.commit.new.self.commits;
      stuck = c.commit.new.self.stuck;
    } in
    goes_failed opens root start (with_table also (edited opens edit start)) (moment_of self no_tools) new after s t (self.vault.at_rest c.requires.free told) run c.in-Err.ensures.uncounted (c.commit.ensures.is_stuck ∙ ap is_err c.in-Err.is)

pub returns-in-Err-clause-elsewhere : goal.returns-in-Err-clause-elsewhere
returns-in-Err-clause-elsewhere g c told =
    let self = c.args.self.now in
    let root = self.vault.root in
    let mounts = self.found.mounts in
    let old = g.D.Disk.meaning.view self.vault.disk in
    let edit = entries_in c.args.edit.now in
    let also = c.args.table.now in
    let change = c.in_ok-change.change in
    let of = subst (λ (r : Text). IsChangeWithTable r mounts edit also c.in_ok-change.change) c.root.ensures c.in_ok-change.ensures.change in
    let table_is = subst (λ (r : Text). IsTable r mounts) c.root.ensures c.change_with_table.ensures.table in
    let after = files_with root mounts edit also old.files in
    let after_is : changed change old.files ≡ after = change_makes (places_with_table root mounts edit also) change old.files (places_with_apart root mounts edit also table_is of.good c.requires.differ) of.puts of.drops in
    let run = subst (λ (f : Files). Leaves (IsBeforeOrAfter root old.files f) old (g.D.Disk.meaning.view c.commit.new.self.disk)) after_is (c.commit.ensures.any_moment c.requires.free told) in
    let new : Moment = record {
      view = g.D.Disk.meaning.view c.commit.new.self.disk;
      faults = record { disk = g.D.Disk.meaning.faults c.commit.new.self.disk; tools = 0 };
      calls = 0;
      commits = c.commit.new.self.commits;
      stuck = c.commit.new.self.stuck;
    } in
    stuck_elsewhere root (paths_with_table root mounts edit also) after (moment_of self no_tools) new (with_apart root mounts edit also old.files) run (c.commit.ensures.is_stuck ∙ ap is_err c.in-Err.is)

pub invariant_of-self-in-Ok : goal.invariant_of-self-in-Ok
invariant_of-self-in-Ok g c =
    let self = c.args.self.now in
    let root = self.vault.root in
    let mounts = self.found.mounts in
    let old = g.D.Disk.meaning.view self.vault.disk in
    let edit = entries_in c.args.edit.now in
    let also = c.args.table.now in
    let change = c.in_ok-change.change in
    let of = subst (λ (r : Text). IsChangeWithTable r mounts edit also c.in_ok-change.change) c.root.ensures c.in_ok-change.ensures.change in
    let table_is = subst (λ (r : Text). IsTable r mounts) c.root.ensures c.change_with_table.ensures.table in
    let after = files_with root mounts edit also old.files in
    record {
      rooted = with_root also edit self.found c.in_ok-next.next c.requires.table c.in_ok-next.ensures ∙ (self.rooted ∙ sym c.commit.ensures.root);
      agrees = λ free told.
          let after_is : changed change old.files ≡ after = change_makes (places_with_table root mounts edit also) change old.files (places_with_apart root mounts edit also table_is of.good c.requires.differ) of.puts of.drops in
          let made = c.in-Ok.ensures.made told in
          let here = merely_applied root old.files self.found edit of.good (few_files edit also c.requires.room) (c.requires.fits told) also c.in_ok-next.next after c.requires.table c.in_ok-next.ensures refl (self.agrees c.requires.free told) in
          let by_files = subst (λ (f : Files). ∥ IsFound root f c.in_ok-next.next ∥₁) (sym (made.files ∙ after_is)) here in
          subst (λ (r : Text). ∥ IsFound r (g.D.Disk.meaning.view c.commit.new.self.disk).files c.in_ok-next.next ∥₁) (sym c.commit.ensures.root) by_files;
    }

pub returns-in-Err-clause-cause : goal.returns-in-Err-clause-cause
returns-in-Err-clause-cause g c =
    fault_caused c.in-Err.fault c.fault_of.result _ _ c.fault_of.ensures
    (record { later = c.commit.ensures.cause.later; failed = λ e. c.commit.ensures.cause.failed (c.in-Err.is ∙ ap Err e); stays = λ other. c.commit.ensures.cause.stays (λ e. other (search rules)); once = c.commit.ensures.cause.once })

pub returns-clause-goes : goal.returns-clause-goes
returns-clause-goes g c told opens start s =
    let self = c.args.self.now in
    let root = self.vault.root in
    let mounts = self.found.mounts in
    let old = g.D.Disk.meaning.view self.vault.disk in
    let edit = entries_in c.args.edit.now in
    let also = c.args.table.now in
    let change = c.in_ok-change.change in
    let of = subst (λ (r : Text). IsChangeWithTable r mounts edit also c.in_ok-change.change) c.root.ensures c.in_ok-change.ensures.change in
    let table_is = subst (λ (r : Text). IsTable r mounts) c.root.ensures c.change_with_table.ensures.table in
    let after = files_with root mounts edit also old.files in
    let after_is : changed change old.files ≡ after = change_makes (places_with_table root mounts edit also) change old.files (places_with_apart root mounts edit also table_is of.good c.requires.differ) of.puts of.drops in
    let run = subst (λ (f : Files). Leaves (IsBeforeOrAfter root old.files f) old (g.D.Disk.meaning.view c.commit.new.self.disk)) after_is (c.commit.ensures.any_moment c.requires.free told) in
    let is = self.agrees c.requires.free told in
    let same = mounts_agree opens root old.files self.found start is s in
    let table = subst (λ (rows : List Row). IsTable root rows) (sym same) table_is in
    let fit = subst (λ (rows : List Row). FitsMounts rows also) (sym same) c.requires.table in
    let t = subst (λ (rows : List Row). StandsFor opens root (files_with root rows edit also old.files) (with_table also (edited opens edit start))) same
    (with_stands opens root edit also old.files start fit table (edited_state_stands opens root edit old.files start of.good table s (c.requires.fits told opens start s))) in
    let new : Moment = record {
      view = g.D.Disk.meaning.view c.commit.new.self.disk;
      faults = record { disk = g.D.Disk.meaning.faults c.commit.new.self.disk; tools = 0 };
      calls = 0;
      commits = c.commit.new.self.commits;
      stuck = c.commit.new.self.stuck;
    } in
    let at_rest = self.vault.at_rest c.requires.free told in
    let none = with_none root mounts edit also old.files table_is of.good at_rest.none in
    let made = subst (λ (f : Files). IsDurable f (g.D.Disk.meaning.view c.commit.new.self.disk)) after_is (c.in-Ok.ensures.made told) in
    goes_applied opens root start (with_table also (edited opens edit start)) (moment_of self no_tools) new after s t at_rest run none made c.in-Ok.ensures.counted

pub returns-clause-elsewhere : goal.returns-clause-elsewhere
returns-clause-elsewhere g c told =
    let self = c.args.self.now in
    let root = self.vault.root in
    let mounts = self.found.mounts in
    let old = g.D.Disk.meaning.view self.vault.disk in
    let edit = entries_in c.args.edit.now in
    let also = c.args.table.now in
    let change = c.in_ok-change.change in
    let of = subst (λ (r : Text). IsChangeWithTable r mounts edit also c.in_ok-change.change) c.root.ensures c.in_ok-change.ensures.change in
    let table_is = subst (λ (r : Text). IsTable r mounts) c.root.ensures c.change_with_table.ensures.table in
    let after = files_with root mounts edit also old.files in
    let after_is : changed change old.files ≡ after = change_makes (places_with_table root mounts edit also) change old.files (places_with_apart root mounts edit also table_is of.good c.requires.differ) of.puts of.drops in
    let run = subst (λ (f : Files). Leaves (IsBeforeOrAfter root old.files f) old (g.D.Disk.meaning.view c.commit.new.self.disk)) after_is (c.commit.ensures.any_moment c.requires.free told) in
    let new : Moment = record {
      view = g.D.Disk.meaning.view c.commit.new.self.disk;
      faults = record { disk = g.D.Disk.meaning.faults c.commit.new.self.disk; tools = 0 };
      calls = 0;
      commits = c.commit.new.self.commits;
      stuck = c.commit.new.self.stuck;
    } in
    made_elsewhere root (paths_with_table root mounts edit also) after (moment_of self no_tools) new (with_apart root mounts edit also old.files) run ((c.in-Ok.ensures.made told).files ∙ after_is)

pub returns-clause-files : goal.returns-clause-files
returns-clause-files g c told =
    let self = c.args.self.now in
    let root = self.vault.root in
    let mounts = self.found.mounts in
    let old = g.D.Disk.meaning.view self.vault.disk in
    let edit = entries_in c.args.edit.now in
    let also = c.args.table.now in
    let of = subst (λ (r : Text). IsChangeWithTable r mounts edit also c.in_ok-change.change) c.root.ensures c.in_ok-change.ensures.change in
    let table_is = subst (λ (r : Text). IsTable r mounts) c.root.ensures c.change_with_table.ensures.table in
    let after_is = change_makes (places_with_table root mounts edit also) c.in_ok-change.change old.files (places_with_apart root mounts edit also table_is of.good c.requires.differ) of.puts of.drops in
    subst (λ (f : Files). AreWrittenWithTable root mounts edit also f) (sym ((c.in-Ok.ensures.made told).files ∙ after_is)) (with_written root mounts edit also old.files (places_apart root mounts edit table_is of.good c.requires.differ))
