use Rattle.std.proofs.Common.{arith, ◌≡◌, List, length, None, sym, ◌∙◌, ap, subst}
use Rattle.std.specs.Prelude.{⊤}
use Rattle.gopass_base.specs.Text.{Text}
use Rattle.disk_model.specs.Files.{Files, put}
use Rattle.disk_model.specs.Runs.{Runs}
use Rattle.disk_model.specs.Listing.{Lists, IsListing}
use Rattle.disk_model.specs.declared.disk.Listed.{Listed}
use Rattle.disk_model.proofs.ListingLemmas.{listing_long}
use Rattle.disk_model.proofs.RunLemmas.{runs_rest, runs_sync, runs_then}
use Rattle.pending_journal.specs.Service.{fresh_path, stage_dir}
use Rattle.pending_journal.specs.Carrying.{IsUnseen, IsRemoved, IsSameBut}
use Rattle.pending_journal.specs.Recovery.{IsCleared}
use Rattle.pending_journal.proofs.RedoLemmas.{unseen_same, unseen_then}
use Rattle.pending_journal.proofs.CommitLemmas.{on_ok}
use Rattle.pending_journal.proofs.RecoverLemmas.{clear_fresh, clear_all, cleared}
use Rattle.pending_journal.proofs.CostLemmas.{costs_one, costs_next, costs_is, costs_most, on_err}
use Rattle.pending_journal.proofs.OpeningLemmas.{listing_fresh}
use Rattle.pending_journal.proofs.recover.clear.Goals as goal

pub returns-in_err-remove-clause-runs : goal.returns-in_err-remove-clause-runs
returns-in_err-remove-clause-runs g c told = clear_fresh c.args.own.now.root c.args.own.now.fresh c.args.own.now.own.fresh_is _ _ (c.remove.ensures.steps told)

pub returns-in_err-paths-clause-runs : goal.returns-in_err-paths-clause-runs
returns-in_err-paths-clause-runs g c told =
    let root = c.args.own.now.root in
    runs_then (IsUnseen root) (unseen_same root) (unseen_then root) _ _ _ (clear_fresh root c.args.own.now.fresh c.args.own.now.own.fresh_is _ _ (c.remove.ensures.steps told)) (runs_rest (IsUnseen root) (unseen_same root) _ _ (c.list.ensures.rests told))

pub returns-in_err-remove_all-in-All-clause-runs : goal.returns-in_err-remove_all-in-All-clause-runs
returns-in_err-remove_all-in-All-clause-runs g c told =
    let root = c.args.own.now.root in
    let files = (g.D.Disk.meaning.view c.remove.new.self).files in
    let paths = c.in-All.paths.items in
    let lists : IsListing files c.args.own.now.stage paths = subst (λ (x : Listed). Lists files c.args.own.now.stage 18446744073709551615 x) c.in-All.is (c.in_ok-paths.ensures.listed told) in
    let second = runs_then (IsUnseen root) (unseen_same root) (unseen_then root) _ _ _ (clear_fresh root c.args.own.now.fresh c.args.own.now.own.fresh_is _ _ (c.remove.ensures.steps told)) (runs_rest (IsUnseen root) (unseen_same root) _ _ (c.list.ensures.rests told)) in
    let v2 = g.D.Disk.meaning.view c.list.new.self in
    let v3 = g.D.Disk.meaning.view c.remove_all.new.disk in
    clear_all root files paths (subst (λ (s : Text). IsListing files s paths) c.args.own.now.own.stage_is lists) _ v2 v3 second
    (subst (λ (ps : List Text). Runs (IsSameBut ps) v2 v3) c.deref.ensures.value (c.remove_all.ensures.runs told))

pub returns-clause-runs : goal.returns-clause-runs
returns-clause-runs g c told =
    let root = c.args.own.now.root in
    let files = (g.D.Disk.meaning.view c.remove.new.self).files in
    let paths = c.in-All.paths.items in
    let lists : IsListing files c.args.own.now.stage paths = subst (λ (x : Listed). Lists files c.args.own.now.stage 18446744073709551615 x) c.in-All.is (c.in_ok-paths.ensures.listed told) in
    let second = runs_then (IsUnseen root) (unseen_same root) (unseen_then root) _ _ _ (clear_fresh root c.args.own.now.fresh c.args.own.now.own.fresh_is _ _ (c.remove.ensures.steps told)) (runs_rest (IsUnseen root) (unseen_same root) _ _ (c.list.ensures.rests told)) in
    let v2 = g.D.Disk.meaning.view c.list.new.self in
    let v3 = g.D.Disk.meaning.view c.remove_all.new.disk in
    let third = clear_all root files paths (subst (λ (s : Text). IsListing files s paths) c.args.own.now.own.stage_is lists) _ v2 v3 second
    (subst (λ (ps : List Text). Runs (IsSameBut ps) v2 v3) c.deref.ensures.value (c.remove_all.ensures.runs told)) in
    runs_then (IsUnseen root) (unseen_same root) (unseen_then root) _ _ _ third (runs_sync (IsUnseen root) (unseen_same root) _ _ (c.sync.ensures.syncs told))

pub returns-clause-cleared : goal.returns-clause-cleared
returns-clause-cleared g c = on_ok c.sync.result (λ told.
    let root = c.args.own.now.root in
    let f0 = (g.D.Disk.meaning.view c.args.disk.now).files in
    let f1 = (g.D.Disk.meaning.view c.remove.new.self).files in
    let f2 = (g.D.Disk.meaning.view c.list.new.self).files in
    let f3 = (g.D.Disk.meaning.view c.remove_all.new.disk).files in
    let paths = c.in-All.paths.items in
    let lists : IsListing f1 c.args.own.now.stage paths = subst (λ (x : Listed). Lists f1 c.args.own.now.stage 18446744073709551615 x) c.in-All.is (c.in_ok-paths.ensures.listed told) in
    let made : f1 ≡ put f0 (fresh_path root) None = (c.in_ok-remove.ensures.made told).files ∙ ap (λ (p : Text). put f0 p None) c.args.own.now.own.fresh_is in
    let removed : IsRemoved paths _ f2 f3 = subst (λ (ps : List Text). IsRemoved ps (length ps) f2 f3) c.deref.ensures.value (c.in_ok-remove_all-in-All.ensures.removed told) in
    let from : IsRemoved paths _ f1 f3 = subst (λ (f : Files). IsRemoved paths (length paths) f f3) (c.list.ensures.rests told).files removed in
    subst (IsCleared root) (sym (c.sync.ensures.syncs told).files) (cleared root f0 f1 f3 paths made (subst (λ (s : Text). IsListing f1 s paths) c.args.own.now.own.stage_is lists) from))

pub returns-clause-costs : goal.returns-clause-costs
returns-clause-costs g c = on_ok c.sync.result (λ told.
    let root = c.args.own.now.root in
    let f0 = (g.D.Disk.meaning.view c.args.disk.now).files in
    let f1 = (g.D.Disk.meaning.view c.remove.new.self).files in
    let paths = c.in-All.paths.items in
    let lists : IsListing f1 c.args.own.now.stage paths = subst (λ (x : Listed). Lists f1 c.args.own.now.stage 18446744073709551615 x) c.in-All.is (c.in_ok-paths.ensures.listed told) in
    let made : f1 ≡ put f0 (fresh_path root) None = (c.in_ok-remove.ensures.made told).files ∙ ap (λ (p : Text). put f0 p None) c.args.own.now.own.fresh_is in
    let listing = listing_fresh root f0 paths (subst (λ (f : Files). IsListing f (stage_dir root) paths) made (subst (λ (s : Text). IsListing f1 s paths) c.args.own.now.own.stage_is lists)) in (
      paths,
      listing,
      costs_is (omega (arith, ap length c.deref.ensures.value)) (λ t. t)
          (costs_next (costs_next (costs_next (costs_one c.remove.ensures.counted c.remove.ensures.later) (costs_one c.list.ensures.counted c.list.ensures.later)) c.in_ok-remove_all-in-All.ensures.costs) (costs_one c.sync.ensures.counted c.sync.ensures.later)),
    ))

pub returns-in_err-remove-clause-few : goal.returns-in_err-remove-clause-few
returns-in_err-remove-clause-few g c = on_err c.from_residual.result (λ told left lists. costs_most {P = ⊤} (omega arith) (costs_one c.remove.ensures.counted c.remove.ensures.later))

pub returns-in_err-paths-clause-few : goal.returns-in_err-paths-clause-few
returns-in_err-paths-clause-few g c = on_err c.from_residual-in_err-paths.result (λ told left lists. costs_most {P = ⊤} (omega arith) (costs_next (costs_one c.remove.ensures.counted c.remove.ensures.later) (costs_one c.list.ensures.counted c.list.ensures.later)))

pub returns-in_err-remove_all-in-All-clause-few : goal.returns-in_err-remove_all-in-All-clause-few
returns-in_err-remove_all-in-All-clause-few g c = on_err c.from_residual-in_err-remove_all-in-All.result (λ told left lists.
    let root = c.args.own.now.root in
    let f0 = (g.D.Disk.meaning.view c.args.disk.now).files in
    let f1 = (g.D.Disk.meaning.view c.remove.new.self).files in
    let paths = c.in-All.paths.items in
    let listed : IsListing f1 c.args.own.now.stage paths = subst (λ (x : Listed). Lists f1 c.args.own.now.stage 18446744073709551615 x) c.in-All.is (c.in_ok-paths.ensures.listed told) in
    let made : f1 ≡ put f0 (fresh_path root) None = (c.in_ok-remove.ensures.made told).files ∙ ap (λ (p : Text). put f0 p None) c.args.own.now.own.fresh_is in
    let listing = listing_fresh root f0 paths (subst (λ (f : Files). IsListing f (stage_dir root) paths) made (subst (λ (s : Text). IsListing f1 s paths) c.args.own.now.own.stage_is listed)) in
    let few = listing_long f0 (stage_dir root) paths left listing lists in
    costs_most (omega (arith, few, ap length c.deref.ensures.value)) (costs_next (costs_next (costs_one c.remove.ensures.counted c.remove.ensures.later) (costs_one c.list.ensures.counted c.list.ensures.later)) c.remove_all.ensures.costs))

pub returns-clause-few : goal.returns-clause-few
returns-clause-few g c = on_err c.sync.result (λ told left lists.
    let root = c.args.own.now.root in
    let f0 = (g.D.Disk.meaning.view c.args.disk.now).files in
    let f1 = (g.D.Disk.meaning.view c.remove.new.self).files in
    let paths = c.in-All.paths.items in
    let listed : IsListing f1 c.args.own.now.stage paths = subst (λ (x : Listed). Lists f1 c.args.own.now.stage 18446744073709551615 x) c.in-All.is (c.in_ok-paths.ensures.listed told) in
    let made : f1 ≡ put f0 (fresh_path root) None = (c.in_ok-remove.ensures.made told).files ∙ ap (λ (p : Text). put f0 p None) c.args.own.now.own.fresh_is in
    let listing = listing_fresh root f0 paths (subst (λ (f : Files). IsListing f (stage_dir root) paths) made (subst (λ (s : Text). IsListing f1 s paths) c.args.own.now.own.stage_is listed)) in
    let few = listing_long f0 (stage_dir root) paths left listing lists in
    costs_most {P = ⊤} (omega (arith, few, ap length c.deref.ensures.value)) (costs_next (costs_next (costs_next (costs_one c.remove.ensures.counted c.remove.ensures.later) (costs_one c.list.ensures.counted c.list.ensures.later)) c.in_ok-remove_all-in-All.ensures.costs) (costs_one c.sync.ensures.counted c.sync.ensures.later)))
