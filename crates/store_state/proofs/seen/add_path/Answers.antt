use Rattle.std.proofs.Common.{◌≡◌, sym, ◌∙◌, subst, Some}
use Rattle.std.proofs.lemmas.Result.{on_ok_weaker}
use Rattle.gopass_base.specs.Text.{Text}
use Rattle.mount_table.specs.Mounts.{row_at}
use Rattle.disk_model.specs.Listing.{rest_in}
use Rattle.store_state.specs.Places.{IsKind}
use Rattle.store_state.proofs.KindLemmas.{dir_at, nothing_found, rest_found, same_found}
use Rattle.store_state.proofs.seen.add_path.Goals as goal

pub returns-in-None : goal.returns-in-None
returns-in-None c (rest, whole) =
    let dir : c.text.result.now ≡ (row_at c.args.mounts.now c.args.row).dir = dir_at c.text.result.now c.rows-rows.result.now c.args.mounts.now c.args.row c.index-rows-row.result c.text.ensures.text c.rows-rows.ensures.rows c.requires in
    let found : rest_in c.text.result.now c.text-2.result.now ≡ Some rest = (λ i. rest_in (dir i) ((c.text-2.ensures.text ∙ whole) i)) ∙ rest_found (row_at c.args.mounts.now c.args.row).dir rest in
    absurd (nothing_found (rest_in c.text.result.now c.text-2.result.now) rest c.in-None.ensures found)

pub returns-in_ok-kind-in-Some : goal.returns-in_ok-kind-in-Some
returns-in_ok-kind-in-Some c (rest, whole) =
    let dir : c.text.result.now ≡ (row_at c.args.mounts.now c.args.row).dir = dir_at c.text.result.now c.rows-rows.result.now c.args.mounts.now c.args.row c.index-rows-row.result c.text.ensures.text c.rows-rows.ensures.rows c.requires in
    let found : rest_in c.text.result.now c.text-2.result.now ≡ Some rest = (λ i. rest_in (dir i) ((c.text-2.ensures.text ∙ whole) i)) ∙ rest_found (row_at c.args.mounts.now c.args.row).dir rest in
    let same : c.in-Some.rest.now ≡ rest = same_found c.in-Some.rest.now rest (sym c.in-Some.ensures ∙ found) in
    let kind = c.in_ok-kind-in-Some.kind in
    on_ok_weaker c.add.result (λ with. (kind, (rest, whole, subst (λ (r : Text). IsKind c.args.mounts.now c.args.row r kind) same c.in_ok-kind-in-Some.ensures), with)) c.add.ensures
