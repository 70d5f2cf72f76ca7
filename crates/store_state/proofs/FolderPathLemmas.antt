-- The path of a file that a folder has of its own is a good one.
use Rattle.std.proofs.Common.{◌≡◌, ◌≢◌, inl, inr, ◌+◌, ◌≤◌, Some, None, List, [], ◌∷◌, length, refl, ap, sym, ◌∙◌, subst, arith, length-append}
use Rattle.std.specs.Prelude.{All}
use Rattle.std.proofs.lemmas.List.Elements.{All-nil, All-cons, All-head, All-tail, All-append}
use Rattle.gopass_base.specs.Text.{Text}
use Rattle.gopass_base.specs.Parts.{parts, IsHidden}
use Rattle.mount_table.specs.Names.{IsNamePart}
use Rattle.mount_table.specs.Folders.{IsFolder}
use Rattle.gopass_base.specs.Paths.{IsPathPart, IsFilePath, IsDirPath, path_in}
use Rattle.mount_table.specs.Prefixes.{folder_parts, IsPrefix}
use Rattle.gopass_base.proofs.JoinLemmas.{parts_join, path_in_good, printable_text}
use Rattle.mount_table.proofs.PrefixLemmas.{by_bytes}
use Rattle.disk_model.specs.Listing.{rest_in}
use Rattle.disk_model.proofs.ListingLemmas.{rest_is}
use Rattle.store_state.specs.Places.{IsFolderFile, folder_rest, folder_under, in_folder, rule_file, template_file}
use Rattle.store_state.proofs.KindLemmas.{nothing_found, rest_found}
use Rattle.store_state.proofs.FolderFileLemmas.{each_under, full_of_rest, gone, last_part, parts_in, rest_behind, rest_of_itself}

-- ---- the rest of a folder, as it is found

pub rest_there : (alias folder rest : Text) → length alias ≢ 0 → rest_in alias folder ≡ Some rest → folder_rest alias folder ≡ rest
rest_there [] folder rest some is = absurd (some refl)
rest_there (c ∷ alias) folder rest some is = rest_behind c alias folder rest (rest_is (c ∷ alias) folder rest is)

pub rest_nowhere : (alias folder : Text) → length alias ≢ 0 → IsPrefix (folder_parts alias) (folder_parts folder) → rest_in alias folder ≡ None → folder_rest alias folder ≡ []
rest_nowhere [] folder some reaches none = absurd (some refl)
rest_nowhere (c ∷ alias) [] some reaches none = gone [] (length (c ∷ alias) + 1) (omega arith)
rest_nowhere (c ∷ alias) (b ∷ folder) some (qs, e) none = elim (by_bytes (c ∷ alias) (b ∷ folder) qs e) [
  | inl same ↦ rest_of_itself c alias (b ∷ folder) same
  | inr (more, whole) ↦ absurd (nothing_found (rest_in (c ∷ alias) (b ∷ folder)) more none (ap (rest_in (c ∷ alias)) whole ∙ rest_found (c ∷ alias) more))
]

-- ---- the parts of the path

name_part : (part : Text) → IsNamePart part → IsPathPart part
name_part part good = let short = good.short in record {
  some = good.some;
  short = omega arith;
  no_dot = λ e. good.plain (subst IsHidden (sym e) refl);
  no_dots = λ e. good.plain (subst IsHidden (sym e) refl);
  printable = good.printable;
}

name_parts : (ps : List Text) → All IsNamePart ps → All IsPathPart ps
name_parts [] each = All-nil IsPathPart
name_parts (p ∷ ps) each = All-cons IsPathPart p ps (name_part p (All-head IsNamePart p ps each)) (name_parts ps (All-tail IsNamePart p ps each))

file_part : (file : Text) → IsFolderFile file → IsPathPart file
file_part file (inl rule) = subst IsPathPart (sym rule) (
    record {
      some = omega arith;
      short = omega arith;
      no_dot = λ e. absurd (omega (arith, ap length e));
      no_dots = λ e. absurd (omega (arith, ap length e));
      printable = printable_text rule_file refl;
    }
    )
file_part file (inr template) = subst IsPathPart (sym template) (
    record {
      some = omega arith;
      short = omega arith;
      no_dot = λ e. absurd (omega (arith, ap length e));
      no_dots = λ e. absurd (omega (arith, ap length e));
      printable = printable_text template_file refl;
    }
    )

file_short : (file : Text) → IsFolderFile file → length file ≤ 14
file_short file (inl rule) = omega (arith, ap length rule)
file_short file (inr template) = omega (arith, ap length template)

-- ---- its length

under_short : (alias below : Text) → length below ≤ length (folder_under alias below)
under_short [] [] = omega arith
under_short [] (b ∷ below) = omega arith
under_short (c ∷ alias) [] = omega arith
under_short (c ∷ alias) (b ∷ below) = omega (arith, length-append (c ∷ alias) (47 ∷ b ∷ below))

under_few : (alias below : Text) → 1 ≤ length below → length (parts below) ≤ length (folder_parts (folder_under alias below))
under_few [] [] some = absurd (omega arith)
under_few [] (b ∷ below) some = omega arith
under_few (c ∷ alias) [] some = absurd (omega arith)
under_few (c ∷ alias) (b ∷ below) some = omega (arith, ap length (parts_join (c ∷ alias) (b ∷ below)), length-append (parts (c ∷ alias)) (parts (b ∷ below)))

file_good : (dir alias below file : Text) → IsDirPath dir → IsFolder (folder_under alias below) → IsFolderFile file → IsFilePath (path_in dir (in_folder below file))
file_good dir alias [] file dir_good good is =
    let named = last_part file is in
    path_in_good dir file dir_good (omega (arith, file_short file is)) (omega (arith, ap length named.one))
    (subst (All IsPathPart) (sym named.one) (All-cons IsPathPart file [] (file_part file is) (All-nil IsPathPart)))
file_good dir alias (b ∷ below) file dir_good good is =
    let short = good.short in
    let few = good.few in
    let cut = parts_in file is b below in
    path_in_good dir (in_folder (b ∷ below) file) dir_good
    (omega (arith, short, under_short alias (b ∷ below), file_short file is, length-append (b ∷ below) (47 ∷ file)))
    (omega (arith, few, under_few alias (b ∷ below) (omega arith), ap length cut, length-append (parts (b ∷ below)) (file ∷ [])))
    (subst (All IsPathPart) (sym cut) (All-append IsPathPart (parts (b ∷ below)) (file ∷ []) (name_parts (parts (b ∷ below)) (each_under alias (b ∷ below) good (omega arith)))
    (All-cons IsPathPart file [] (file_part file is) (All-nil IsPathPart))))

-- the directory of a mount has 500 bytes and 12 parts at most, a folder 400 bytes and 16 parts
pub folder_path_good : (dir alias folder file : Text) → IsDirPath dir → IsFolder folder → IsPrefix (folder_parts alias) (folder_parts folder) → IsFolderFile file → IsFilePath (path_in dir (in_folder (folder_rest alias folder) file))
folder_path_good dir alias folder file dir_good good reaches is =
    file_good dir alias (folder_rest alias folder) file dir_good (subst (λ (t : Text). IsFolder t) (sym (full_of_rest alias folder good reaches)) good) is
