use Rattle.std.proofs.Common.{rules, ◌≡◌, ◌∙◌, inl, Bool, List, true, cond, ap, sym, subst}
use Rattle.std.specs.Prelude.{All, IfOk}
use Rattle.gopass_base.specs.Text.{Text}
use Rattle.mount_table.specs.Prefixes.{Holds}
use Rattle.mount_table.specs.declared.mounts.Row.{Row}
use Rattle.store_state.proofs.AgreeLemmas.{keys_agree, mounts_agree}
use Rattle.store_core.specs.Plans.{Outcome, Done, Refused}
use Rattle.store_core.specs.declared.refusal.Refusal.TheVariants.{NotFound}
use Rattle.store_core.specs.Reads.{rows_under}
use Rattle.gopass_cli.specs.Ls.{list_folder, listed}
use Rattle.gopass_cli.specs.Outcomes.{ComesTo, meant}
use Rattle.gopass_cli.proofs.ListingLemmas.{rows_held}
use Rattle.gopass_cli.proofs.listing.ls.Goals as goal

pub returns-then-not-is_there : goal.returns-then-not-is_there
returns-then-not-is_there g c = record {
  lists = λ told opens state s. (
      let self = c.args.store.now in
      let folder = c.args.folder.now in
      let found = self.found in
      let files = (g.D.Disk.meaning.view self.vault.disk).files in
      let agrees = self.agrees c.requires.free told in
      let keys = keys_agree opens self.vault.root files found state agrees s in
      let own = mounts_agree opens self.vault.root files found state agrees s in
      let there = sym (c.is_there.ensures found.seen.names.items (c.deref.ensures.value ∙ c.in-Ok.ensures)) ∙ c.if-not-is_there.true in
      let here : list_folder c.args.flat folder found.seen.names.items found.mounts ≡ Refused NotFound =
      ap (λ (rows : List Row). list_folder c.args.flat folder found.seen.names.items rows) (sym c.mounts.ensures)
      ∙ ap (λ (b : Bool). cond b (Done (listed c.args.flat folder (rows_under folder found.seen.names.items))) (Refused NotFound)) there in
      inl (sym ((λ i. list_folder c.args.flat folder (keys i) (own i)) ∙ here)));
  own = search rules;
  about = search rules;
}

pub listed-requires : goal.listed-requires
listed-requires g c = subst (All (Holds c.args.folder.now)) (sym (c.deref-in-Ok.ensures.value ∙ c.in-Ok.ensures)) (rows_held c.args.folder.now c.args.store.now.found.seen.names.items)

pub returns-else-not-is_there : goal.returns-else-not-is_there
returns-else-not-is_there g c = record {
  lists = λ told opens state s. (
      let self = c.args.store.now in
      let folder = c.args.folder.now in
      let found = self.found in
      let files = (g.D.Disk.meaning.view self.vault.disk).files in
      let agrees = self.agrees c.requires.free told in
      let keys = keys_agree opens self.vault.root files found state agrees s in
      let own = mounts_agree opens self.vault.root files found state agrees s in
      let test : c.is_there.result ≡ true = search rules in
      let there = sym (c.is_there.ensures found.seen.names.items (c.deref.ensures.value ∙ c.in-Ok.ensures)) ∙ test in
      let rows : c.deref-in-Ok.result.now ≡ rows_under folder found.seen.names.items = c.deref-in-Ok.ensures.value ∙ c.in-Ok.ensures in
      let here : list_folder c.args.flat folder found.seen.names.items found.mounts ≡ Done (listed c.args.flat folder (rows_under folder found.seen.names.items)) =
      ap (λ (mounts : List Row). list_folder c.args.flat folder found.seen.names.items mounts) (sym c.mounts.ensures)
      ∙ ap (λ (b : Bool). cond b (Done (listed c.args.flat folder (rows_under folder found.seen.names.items))) (Refused NotFound)) there in
      subst (λ (wanted : Outcome). ComesTo wanted (meant c.print_text.result)) (sym ((λ i. list_folder c.args.flat folder (keys i) (own i)) ∙ here))
      (c.print_text.ensures.says (listed c.args.flat folder (rows_under folder found.seen.names.items)) (subst (λ (names : List Text). IfOk c.listed.result (λ text. text.items ≡ listed c.args.flat folder names)) rows c.listed.ensures)));
  own = c.print_text.ensures.own;
  about = c.print_text.ensures.about;
}
