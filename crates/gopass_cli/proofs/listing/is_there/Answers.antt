use Rattle.std.proofs.Common.{rules, ◌≡◌, ◌||◌, ◌∙◌, Bool, true, false, not, ap, sym}
use Rattle.gopass_cli.specs.Ls.{is_alias}
use Rattle.gopass_cli.proofs.ListingLemmas.{has_rows}
use Rattle.gopass_cli.proofs.listing.is_there.Goals as goal

pub returns-then-not-is_empty : goal.returns-then-not-is_empty
returns-then-not-is_empty c all is =
    let out : c.is_empty.result ≡ false = search rules in
    let held = has_rows c.args.folder.now all c.args.names.now c.is_empty.result is c.is_empty.ensures in
    ap not out ∙ sym (ap (λ (b : Bool). b || is_alias c.args.mounts.now c.args.folder.now) (sym held ∙ ap not out))

pub returns-else-not-is_empty : goal.returns-else-not-is_empty
returns-else-not-is_empty c all is =
    let none : c.is_empty.result ≡ true = search rules in
    let held = has_rows c.args.folder.now all c.args.names.now c.is_empty.result is c.is_empty.ensures in
    c.is_alias.ensures ∙ sym (ap (λ (b : Bool). b || is_alias c.args.mounts.now c.args.folder.now) (sym held ∙ ap not none))
