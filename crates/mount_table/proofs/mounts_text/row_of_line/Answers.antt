use Rattle.std.proofs.Common.{◌≡◌, IsTrue, ap, sym, ◌∙◌, subst}
use Rattle.std.specs.Prelude.{Err}
use Rattle.std.specs.Str.{is_utf8}
use Rattle.std.proofs.lemmas.Result.{err_from_is_err_and}
use Rattle.mount_table.specs.Folders.{IsFolder}
use Rattle.gopass_base.specs.Paths.{IsDirPath}
use Rattle.gopass_base.specs.declared.path.PathFault.TheVariants.{Bad}
use Rattle.mount_table.proofs.LineLemmas.{fields_are}
use Rattle.mount_table.proofs.mounts_text.row_of_line.Goals as goal

pub returns-in_default-flag_of-clause-bad : goal.returns-in_default-flag_of-clause-bad
returns-in_default-flag_of-clause-bad c = λ _ row good is.
    let e = c.in-Some.ensures in
    c.in_default-flag_of.ensures row.git (fields_are c.args.line.now c.in-Some.alias.now c.in-Some.dir.now c.in-Some.flag.now row e.0 e.1 e.2 good is).2

pub returns-in_err-alias_of-clause-bad : goal.returns-in_err-alias_of-clause-bad
returns-in_err-alias_of-clause-bad c =
    let p = err_from_is_err_and c.from_residual.result c.from_residual.ensures.1 in
    λ bad row good is.
    let e = c.in-Some.ensures in
    let f = fields_are c.args.line.now c.in-Some.alias.now c.in-Some.dir.now c.in-Some.flag.now row e.0 e.1 e.2 good is in
    let kind : p.0 ≡ Bad = (let q = sym p.1 ∙ bad in cc) in
    c.in_err-alias_of.ensures.bad (ap Err (sym p.2 ∙ kind)) (subst (λ t. IsTrue (is_utf8 t)) (sym f.0) good.alias_text) (subst IsFolder (sym f.0) good.alias_folder)

pub returns-in_err-dir_of-clause-bad : goal.returns-in_err-dir_of-clause-bad
returns-in_err-dir_of-clause-bad c =
    let p = err_from_is_err_and c.from_residual-in_err-dir_of.result c.from_residual-in_err-dir_of.ensures.1 in
    λ bad row good is.
    let e = c.in-Some.ensures in
    let f = fields_are c.args.line.now c.in-Some.alias.now c.in-Some.dir.now c.in-Some.flag.now row e.0 e.1 e.2 good is in
    let kind : p.0 ≡ Bad = (let q = sym p.1 ∙ bad in cc) in
    c.in_err-dir_of.ensures.bad (ap Err (sym p.2 ∙ kind)) (subst (λ t. IsTrue (is_utf8 t)) (sym f.1) good.dir_text) (subst IsDirPath (sym f.1) good.dir_path)
