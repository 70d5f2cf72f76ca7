use Rattle.std.proofs.Common.{subst}
use Rattle.gopass_base.specs.Text.{Text}
use Rattle.disk_model.specs.Listing.{IsListing, Lists as ListsDisk}
use Rattle.disk_model.specs.declared.disk.Listed.{Listed}
use Rattle.pending_journal.specs.Service.{without_service}
use Rattle.store_state.proofs.TreeLemmas.{few_tree, many_tree}
use Rattle.store_state.proofs.tree.list_tree.Goals as goal

pub returns-in-All-clause-lists : goal.returns-in-All-clause-lists
returns-in-All-clause-lists g c told =
    let files = (g.D.Disk.meaning.view c.args.vault.now.disk).files in
    let root = c.args.vault.now.root in
    let listed = subst (λ (l : Listed). ListsDisk (without_service root files) c.in_ok-path.path 40002 l) c.in-All.is (c.in_ok-paths.ensures.listed told) in
    let here = subst (λ (dir : Text). IsListing (without_service root files) dir c.in-All.paths.items) c.in_ok-path.ensures listed in
    few_tree root c.args.own.now files c.args.dir.now c.in-All.paths.items c.not_own.result.items c.few.result c.requires here c.not_own.ensures c.few.ensures.few

pub returns-clause-lists : goal.returns-clause-lists
returns-clause-lists g c told =
    let files = (g.D.Disk.meaning.view c.args.vault.now.disk).files in
    let root = c.args.vault.now.root in
    let (paths, listing, more) = subst (λ (l : Listed). ListsDisk (without_service root files) c.in_ok-path.path 40002 l) c.in-Many.is (c.in_ok-paths.ensures.listed told) in
    many_tree root c.args.own.now files c.args.dir.now paths c.requires (subst (λ (dir : Text). IsListing (without_service root files) dir paths) c.in_ok-path.ensures listing) more
