-- Files that stand for a state are refused by no opening.
use Rattle.std.proofs.Common.{◌≡◌, inl, inr, ℕ, ◌+◌, ◌*◌, ◌≤◌, Bool, true, false, List, [], ◌∷◌, ◌++◌, length, Option, Some, None, Err, if◌then◌else◌, refl, ap, sym, ◌∙◌, subst, arith, length-append}
use Rattle.std.specs.Prelude.{All, Contains, option_map}
use Rattle.std.specs.FinMap as map
use Rattle.std.proofs.lemmas.List.Elements.{All-head, All-tail}
use Rattle.gopass_base.specs.Text.{Text}
use Rattle.mount_table.specs.Mounts.{IsRow, IsTable, IsMountOf, new_row, row_at}
use Rattle.mount_table.specs.MountsText.{IsFirstBad, flag_of, line_of, table_text}
use Rattle.mount_table.specs.MountOf.{holds, mount_of}
use Rattle.mount_table.specs.declared.mounts.Row.{Row}
use Rattle.mount_table.proofs.LineLemmas.{all_rows, no_bad_line}
use Rattle.mount_table.proofs.MountLemmas.{one_row}
use Rattle.mount_table.proofs.MountOfLemmas.{mount_computed}
use Rattle.disk_model.specs.Files.{Files}
use Rattle.pending_journal.specs.Service.{is_service, without_service}
use Rattle.recipient_files.specs.Ids.{Ids}
use Rattle.cipher_port.specs.Tool.{Opens}
use Rattle.path_rules.specs.RuleMap.{rule_at}
use Rattle.store_state.specs.declared.fault.Limit.TheVariants as limit
use Rattle.store_state.specs.declared.fault.StoreFault.{StoreFault}
use Rattle.store_state.specs.declared.fault.StoreFault.TheVariants.{BadFile, Full, Disk, NoMemory}
use Rattle.store_state.specs.declared.kind.Kind.{Kind}
use Rattle.store_state.specs.declared.seen.Seen.{Seen}
use Rattle.store_state.specs.Faults.{IsFileFault}
use Rattle.store_state.specs.Found.{LiesAs}
use Rattle.store_state.specs.Places.{IsFolderOf, IsKind, rule_path, secret_path}
use Rattle.store_state.specs.Tree.{is_own, tree_files}
use Rattle.store_state.specs.Survey.{IsFullMount}
use Rattle.store_state.specs.RuleFiles.{IsBadThere, IsRuleFile, IsRuleOf}
use Rattle.store_state.specs.State.{AreMounts, Cell, State, StandsFor, cell_of, mounts_path}
use Rattle.store_state.specs.Opening.{IsBadMounts, IsSurveyed, OpensStore}
use Rattle.store_state.proofs.KeyLemmas.{many_keys}
use Rattle.store_state.proofs.PathLemmas.{path_by_mount}
use Rattle.store_state.proofs.RuleLemmas.{folder_of_rule, path_of_rule}
use Rattle.store_state.proofs.StateLemmas.{one_listing, one_table}

-- ---- the mounts file of a table is short

flag_short : (git : Bool) → length (flag_of git) ≤ 5
flag_short true = omega arith
flag_short false = omega arith

line_short : (row : Row) → IsRow row → length (line_of row) ≤ 907
line_short row is =
    let behind = row.dir ++ 9 ∷ flag_of row.git in
    let whole : length (line_of row) ≡ length row.alias + length (9 ∷ behind) = length-append row.alias (9 ∷ behind) in
    let rest : length behind ≡ length row.dir + length (9 ∷ flag_of row.git) = length-append row.dir (9 ∷ flag_of row.git) in
    let alias : length row.alias ≤ 400 = is.alias_folder.short in
    let dir : length row.dir ≤ 500 = is.dir_path.short in
    omega (arith, whole, rest, flag_short row.git, alias, dir)

lines_short : (rows : List Row) → All IsRow rows → length (table_text rows) ≤ 908 * length rows
lines_short [] each = omega arith
lines_short (row ∷ rows) each = omega (arith, length-append (line_of row) (10 ∷ table_text rows), line_short row (All-head IsRow row rows each), lines_short rows (All-tail IsRow row rows each))

text_short : (root : Text) (rows : List Row) → IsTable root rows → length (table_text rows) ≤ 131072
text_short root rows table = omega (arith, table.rows_are.most, lines_short rows (all_rows root rows table.rows_are))

-- ---- what lies at a path of a listing is there

only_there : (hidden : Bool) (file : Option Text) (bytes : Text) → (if hidden then None else file) ≡ Some bytes → file ≡ Some bytes
only_there true file bytes e = absurd (cc)
only_there false file bytes e = e

shown_there : (root : Text) (files : Files) (path bytes : Text) → without_service root files path ≡ Some bytes → files path ≡ Some bytes
shown_there root files path bytes e = only_there (is_service root path) (files path) bytes e

listed_there : (root : Text) (files : Files) (path bytes : Text) → tree_files root files path ≡ Some bytes → files path ≡ Some bytes
listed_there root files path bytes e = shown_there root files path bytes (only_there (is_own root path) (without_service root files path) bytes e)

-- ---- the row of a name is the one that is computed

mount_is : (root : Text) (file : Option Text) (mounts : List Row) (name : Text) (k : ℕ) → AreMounts root file mounts → IsMountOf mounts name k → mount_of mounts name ≡ k
mount_is root None mounts name k are here =
    let none : ℕ = 0 in
    let alone : mount_of (new_row [] root ∷ []) name ≡ none = either (holds [] name) in
    let first : none ≡ k = omega (arith, here.inside, ap length are) in
    ap (λ rows. mount_of rows name) are ∙ (alone ∙ first)
  where
    either : (b : Bool) → ◌≡◌ {A = ℕ} (if b then 0 else 0) 0
    either true = refl
    either false = refl
mount_is root (Some bytes) mounts name k are here = one_row root name mounts (mount_of mounts name) k are.0 (mount_computed root name mounts are.0) here

some_rule : (bytes : Text) (rule : Option Ids) → IsRuleOf (Some bytes) rule → (ids : Ids) × (rule ≡ Some ids) × IsRuleFile bytes ids
some_rule bytes None is = absurd is
some_rule bytes (Some ids) is = (ids, refl, is)

no_some : {X : Type 0} {x : X} → None ≡ Some x → ⊥
no_some e = cc

module _ (opens : Opens) (root : Text) (files : Files) (state : State) (stands : StandsFor opens root files state) where
  no_bad_mounts : (bytes : Text) (line : ℕ) → files (mounts_path root) ≡ Some bytes → IsBadMounts root bytes line → ⊥
  no_bad_mounts bytes line there bad =
      let (table, text) = subst (λ (file : Option Text). AreMounts root file state.mounts) there stands.mounts_are in
      elim bad [
        | inl (short, first) ↦ no_bad_line root state.mounts line table (subst (λ (t : Text). IsFirstBad root t line) text first)
        | inr (long, zero_is) ↦ absurd (omega (arith, long, ap length text, text_short root state.mounts table))
      ]

  mounts_same : (mounts : List Row) → AreMounts root (files (mounts_path root)) mounts → mounts ≡ state.mounts
  mounts_same mounts are = one_table root (files (mounts_path root)) mounts state.mounts are stands.mounts_are

  -- no mount has too many files
  no_full_mount : IsFullMount root files state.mounts → ⊥
  no_full_mount full =
      let (all, listing, many) = full.full in
      let (counted, tree, is) = stands.sizes_are.each full.row full.inside in
      let same : counted ≡ all = one_listing (tree_files root files) (row_at state.mounts full.row).dir counted all tree.listing listing in
      absurd (omega (arith, many, tree.few, ap length same))

  -- ---- what was found below the mounts

  module _ (seen : Seen) (all : IsSurveyed root files state.mounts seen) where
    secret_known : (name : Text) → Contains seen.names.items name → (cell : Cell) × (map.get state.rows name ≡ Some cell)
    secret_known name has =
        let (k, path, kind, lt, inside, (bytes, there), lies, gives) = (all.survey.found.names name).0 has in
        let (rest, whole, kind_is) = lies in
        let at = subst (λ (w : Kind). IsKind state.mounts k rest w) gives kind_is in
        let good = at.0.good in
        let own = mount_is root (files (mounts_path root)) state.mounts name k stands.mounts_are at.1 in
        let file : files (secret_path state.mounts name) ≡ Some bytes = ap files (sym (whole ∙ path_by_mount state.mounts k rest name own at.0 at.1)) ∙ listed_there root files path bytes there in
        (cell_of opens bytes, stands.secrets.row name good ∙ ap (option_map (cell_of opens)) file)

    folder_known : (folder : Text) → Contains seen.rules.items folder → (k : ℕ) × (bytes : Text) × IsFolderOf state.mounts k folder × (files (rule_path state.mounts k folder) ≡ Some bytes)
    folder_known folder has =
        let (k, path, kind, lt, inside, (bytes, there), lies, gives) = (all.survey.found.rules folder).0 has in
        let here = subst (λ (w : Kind). LiesAs state.mounts k w path) gives lies in
        (k, bytes, folder_of_rule state.mounts k path folder here, ap files (sym (path_of_rule state.mounts k path folder here)) ∙ listed_there root files path bytes there)

    rule_reads : (folder bytes : Text) (k : ℕ) → IsFolderOf state.mounts k folder → files (rule_path state.mounts k folder) ≡ Some bytes → (ids : Ids) × (rule_at state.rules folder ≡ Some ids) × IsRuleFile bytes ids
    rule_reads folder bytes k own there = some_rule bytes (rule_at state.rules folder) (subst (λ (file : Option Text). IsRuleOf file (rule_at state.rules folder)) there (stands.rules.rule folder k own))

    rule_known : (folder : Text) → Contains seen.rules.items folder → (ids : Ids) × (rule_at state.rules folder ≡ Some ids)
    rule_known folder has =
        let (k, bytes, own, there) = folder_known folder has in
        let (ids, is, reads) = rule_reads folder bytes k own there in
        (ids, is)

    few_rules : length seen.rules.items ≤ 512
    few_rules = omega (arith, stands.limits.few_rules, many_keys state.rules seen.rules.items all.rising.rules rule_known)

    few_secrets : length seen.names.items ≤ 8192
    few_secrets = omega (arith, stands.limits.few_secrets, many_keys state.rows seen.names.items all.rising.names secret_known)

    no_bad_rule : (folder path : Text) (line : ℕ) → Contains seen.rules.items folder → IsBadThere root files state.mounts folder path line → ⊥
    no_bad_rule folder path line has (k, mount, path_is, bytes, there, bad) =
        let (j, other, own, there_in) = folder_known folder has in
        let good = own.0 in
        let file : files (rule_path state.mounts k folder) ≡ Some bytes = ap files (sym path_is) ∙ shown_there root files path bytes there in
        let (ids, is, reads) = rule_reads folder bytes k (good, mount) file in
        elim bad [
          | inl (short, line_is, first, same) ↦ no_some (sym reads.rule.good ∙ first)
          | inr (long, zero_is) ↦ absurd (omega (arith, long, reads.short))
        ]

  surveyed_here : (mounts : List Row) (seen : Seen) → IsSurveyed root files mounts seen → IsSurveyed root files state.mounts seen
  surveyed_here mounts seen all = subst (λ (rows : List Row). IsSurveyed root files rows seen) (mounts_same mounts all.mounts_are) all

  -- ---- no fault of the files

  pub never_refused : (fault : StoreFault) → OpensStore root files (Err fault) → IsFileFault fault → ⊥
  never_refused (BadFile path line) (inl (path_is, bytes, there, bad)) of_files = no_bad_mounts bytes line there bad
  never_refused (BadFile path line) (inr (inl (mounts, are, path_is, line_is, there))) of_files = there stands.limits.no_pending
  never_refused (BadFile path line) (inr (inr (mounts, seen, all, few, few_names, folder, has, bad))) of_files =
      no_bad_rule seen (surveyed_here mounts seen all) folder path line has (subst (λ (rows : List Row). IsBadThere root files rows folder path line) (mounts_same mounts all.mounts_are) bad)
  never_refused (Full limit.Files) (mounts, are, none, full) of_files = no_full_mount (subst (IsFullMount root files) (mounts_same mounts are) full)
  never_refused (Full limit.Rules) (mounts, seen, all, many) of_files = absurd (omega (arith, many, few_rules seen (surveyed_here mounts seen all)))
  never_refused (Full limit.Secrets) (mounts, seen, all, few, many) of_files = absurd (omega (arith, many, few_secrets seen (surveyed_here mounts seen all)))
  never_refused (Full limit.Mounts) is of_files = absurd is
  never_refused (Full limit.Ids) is of_files = absurd is
  never_refused (Full limit.Body) is of_files = absurd is
  never_refused (Full limit.Changes) is of_files = absurd is
  never_refused (Full limit.Counter) is of_files = absurd is
  never_refused Disk is of_files = absurd of_files
  never_refused NoMemory is of_files = absurd of_files
