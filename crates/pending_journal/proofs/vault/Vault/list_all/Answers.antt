use Rattle.std.proofs.Common.{subst}
use Rattle.disk_model.specs.Listing.{Lists}
use Rattle.disk_model.specs.declared.disk.Listed.{Listed}
use Rattle.pending_journal.proofs.ListLemmas.{lists_at_most}
use Rattle.pending_journal.proofs.vault.Vault.list_all.Goals as goal

pub returns-clause-listed : goal.returns-clause-listed
returns-clause-listed g c told =
    let files = (g.D.Disk.meaning.view c.args.self.now.disk).files in
    let all = subst (λ (l : Listed). Lists files c.args.dir.now 18446744073709551615 l) c.in-All.is (c.in_ok-paths.ensures.listed told) in
    lists_at_most c.args.self.now.root files c.args.dir.now c.args.max c.in-All.paths.items c.others.result.items c.at_most.result all c.others.ensures.others c.at_most.ensures.content
