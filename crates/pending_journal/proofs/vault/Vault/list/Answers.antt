use Rattle.std.proofs.Common.{subst, sym}
use Rattle.disk_model.specs.Files.{Files}
use Rattle.disk_model.specs.Listing.{IsListing, Lists}
use Rattle.disk_model.specs.declared.disk.Listed.{Listed}
use Rattle.pending_journal.specs.Service.{without_service}
use Rattle.pending_journal.proofs.ListLemmas.{listing_without}
use Rattle.pending_journal.proofs.RedoLemmas.{without_none}
use Rattle.pending_journal.proofs.vault.Vault.list.Goals as goal

pub returns-in-All-clause-listed : goal.returns-in-All-clause-listed
returns-in-All-clause-listed g c told =
    let files = (g.D.Disk.meaning.view c.args.self.now.disk).files in
    let all = subst (λ (l : Listed). Lists files c.args.dir.now c.args.max l) c.in-All.is (c.in_ok-paths.ensures.listed told) in
    subst (IsListing (without_service c.args.self.now.root files) c.args.dir.now) (sym c.others.ensures.others) (listing_without c.args.self.now.root files c.args.dir.now c.in-All.paths.items all)

pub returns-in-Many-clause-listed : goal.returns-in-Many-clause-listed
returns-in-Many-clause-listed g c told =
    let files = (g.D.Disk.meaning.view c.args.self.now.disk).files in
    let rest = c.args.self.now.at_rest c.if-not-self.true told in
    subst (λ (l : Listed). Lists (without_service c.args.self.now.root files) c.args.dir.now c.args.max l) c.in-Many.is
    (subst (λ (f : Files). Lists f c.args.dir.now c.args.max c.in_ok-paths.field-0) (sym (without_none c.args.self.now.root files rest.none)) (c.in_ok-paths.ensures.listed told))
