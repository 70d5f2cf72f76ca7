-- The files that a folder has of its own: its rule and its template.
use Rattle.std.proofs.Common.{◌≡◌, ◌≢◌, inl, inr, ℕ, zero, suc, ◌+◌, ◌<◌, ◌≤◌, Bool, true, false, ◌||◌, Option, Some, None, if◌then◌else◌, List, [], ◌∷◌, ◌++◌, length, drop, bytes_eq, refl, ap, sym, ◌∙◌, subst, arith, length-append}
use Rattle.std.specs.Prelude.{All, codes}
use Rattle.std.proofs.lemmas.Bool.{false_from_ne_true, or_cases}
use Rattle.std.proofs.lemmas.List.{append_assoc, append_cancel_left, drop_at}
use Rattle.std.proofs.lemmas.List.Elements.{All-nil, All-cons, All-head, All-tail}
use Rattle.std.proofs.lemmas.Slice.Eq.{bytes_eq-Decides}
use Rattle.gopass_base.specs.Text.{Text}
use Rattle.gopass_base.specs.Parts.{parts, IsHidden}
use Rattle.mount_table.specs.Names.{IsNamePart}
use Rattle.mount_table.specs.Folders.{IsFolder}
use Rattle.gopass_base.specs.Paths.{path_in}
use Rattle.mount_table.specs.Prefixes.{folder_parts, IsPrefix}
use Rattle.mount_table.specs.Mounts.{row_at, IsTable, IsMountOfFolder}
use Rattle.mount_table.specs.declared.mounts.Row.{Row}
use Rattle.mount_table.proofs.PartLemmas.{parts_fill}
use Rattle.mount_table.proofs.PrefixLemmas.{by_bytes}
use Rattle.gopass_base.proofs.JoinLemmas.{parts_join}
use Rattle.disk_model.specs.Files.{Files}
use Rattle.disk_model.specs.Listing.{LiesIn, lies_in, rest_in}
use Rattle.disk_model.proofs.ListingLemmas.{lies_by, rest_is}
use Rattle.pending_journal.specs.Service.{is_service, is_service_rest, without_service}
use Rattle.store_state.specs.Places.{IsFolderFile, IsFolderFileAt, IsFolderOf, dir_of, folder_path, folder_rest, folder_under, in_folder, rest_of, rule_file, rule_path, secret_path, template_file, template_path}
use Rattle.store_state.specs.Tree.{is_own, tree_files}
use Rattle.store_state.proofs.OneKind.{front_of, in_folder_is, last_is}
use Rattle.store_state.proofs.NameLemmas.{one_dir}

-- ---- the rest of a folder below a mount

pub gone : (l : Text) (n : ℕ) → length l < n → drop n l ≡ []
gone [] zero lt = refl
gone [] (suc n) lt = refl
gone (x ∷ l) zero lt = absurd (omega arith)
gone (x ∷ l) (suc n) lt = gone l n (omega arith)

-- what stands behind the alias and a slash
pub rest_behind : (c : ℕ) (alias folder more : Text) → folder ≡ (c ∷ alias) ++ 47 ∷ more → folder_rest (c ∷ alias) folder ≡ more
rest_behind c alias folder more whole =
    ap (drop (length (c ∷ alias) + 1)) (whole ∙ sym (append_assoc (c ∷ alias) (47 ∷ []) more))
    ∙ drop_at ((c ∷ alias) ++ 47 ∷ []) more (length (c ∷ alias) + 1) (omega (arith, length-append (c ∷ alias) (47 ∷ [])))

-- the folder of the alias itself has no rest
pub rest_of_itself : (c : ℕ) (alias folder : Text) → folder ≡ c ∷ alias → folder_rest (c ∷ alias) folder ≡ []
rest_of_itself c alias folder same = gone folder (length (c ∷ alias) + 1) (omega (arith, ap length same))

rest_of_full : (alias below : Text) → folder_rest alias (folder_under alias below) ≡ below
rest_of_full [] [] = refl
rest_of_full [] (b ∷ below) = refl
rest_of_full (c ∷ alias) [] = rest_of_itself c alias (c ∷ alias) refl
rest_of_full (c ∷ alias) (b ∷ below) = rest_behind c alias ((c ∷ alias) ++ 47 ∷ b ∷ below) (b ∷ below) refl

pub full_of_rest : (alias folder : Text) → IsFolder folder → IsPrefix (folder_parts alias) (folder_parts folder) → folder_under alias (folder_rest alias folder) ≡ folder
full_of_rest [] [] good reaches = refl
full_of_rest [] (b ∷ folder) good reaches = refl
full_of_rest (c ∷ alias) [] good (qs, e) = absurd (omega (arith, ap length e, length-append (parts (c ∷ alias)) qs, (parts_fill (c ∷ alias)).0))
full_of_rest (c ∷ alias) (b ∷ folder) good (qs, e) = elim (by_bytes (c ∷ alias) (b ∷ folder) qs e) [
  | inl same ↦ ap (folder_under (c ∷ alias)) (rest_of_itself c alias (b ∷ folder) same) ∙ sym same
  | inr (more, whole) ↦ by more whole
]
  where
    by : (more : Text) → b ∷ folder ≡ (c ∷ alias) ++ 47 ∷ more → folder_under (c ∷ alias) (folder_rest (c ∷ alias) (b ∷ folder)) ≡ b ∷ folder
    by [] whole = absurd (empty_part (parts (c ∷ alias)) (subst (All IsNamePart) (ap parts whole ∙ parts_join (c ∷ alias) []) good.each))
      where
        empty_part : (ps : List Text) → All IsNamePart (ps ++ [] ∷ []) → ⊥
        empty_part [] h = (let part = All-head IsNamePart [] [] h in let some = part.some in omega arith)
        empty_part (p ∷ ps) h = empty_part ps (All-tail IsNamePart p (ps ++ [] ∷ []) h)
    by (d ∷ more) whole = ap (folder_under (c ∷ alias)) (rest_behind c alias (b ∷ folder) (d ∷ more) whole) ∙ sym whole

-- the rest of a folder that belongs to the k-th mount is that of a folder
pub full_in : (mounts : List Row) (k : ℕ) (folder : Text) → IsFolderOf mounts k folder → IsFolder (folder_under (row_at mounts k).alias (folder_rest (row_at mounts k).alias folder))
full_in mounts k folder (good, here) = subst (λ (t : Text). IsFolder t) (sym (full_of_rest (row_at mounts k).alias folder good here.reaches)) good

-- ---- where the file is

-- at the path the folder has its file of this name, below the k-th mount
abbrev pub LiesWith : List Row → ℕ → (folder file path : Text) → Type 0
LiesWith mounts k folder file path = (rest : Text) × (path ≡ path_in (row_at mounts k).dir rest) × (IsFolderFileAt file (row_at mounts k).alias rest folder × IsMountOfFolder mounts folder k)

-- where the k-th mount has the file is its path
pub path_of_folder_file : (mounts : List Row) (k : ℕ) (folder file path : Text) → LiesWith mounts k folder file path → path ≡ folder_path mounts k folder file
path_of_folder_file mounts k folder file path (rest, whole, (at, here)) =
    whole ∙ ap (path_in (row_at mounts k).dir) (at.there ∙ ap (λ below. in_folder below file) (sym (ap (folder_rest (row_at mounts k).alias) at.named ∙ rest_of_full (row_at mounts k).alias at.below)))

pub folder_of_folder_file : (mounts : List Row) (k : ℕ) (folder file path : Text) → LiesWith mounts k folder file path → IsFolderOf mounts k folder
folder_of_folder_file mounts k folder file path (rest, whole, (at, here)) = (at.good, here)

pub folder_file_lies_as : (mounts : List Row) (k : ℕ) (folder file : Text) → IsFolderOf mounts k folder → LiesWith mounts k folder file (folder_path mounts k folder file)
folder_file_lies_as mounts k folder file (good, here) = (
  in_folder (folder_rest (row_at mounts k).alias folder) file,
  refl,
  (
    record {
      below = folder_rest (row_at mounts k).alias folder;
      there = refl;
      named = sym (full_of_rest (row_at mounts k).alias folder good here.reaches);
      good = good;
    },
    here,
  ),
)

-- ---- the names of the two files

-- what the two have in common: one part, which is neither git's folder nor the vault's, with a last byte below those
-- of the store's own files and of secrets
pub record IsLastPart (file : Text) : Type 0 where
  pub one : parts file ≡ file ∷ []
  pub no_git : file ≢ codes ".git"
  pub no_stage : file ≢ codes ".gopass-stage"
  pub front : Text
  pub last : ℕ
  pub low : last ≤ 101
  pub ends : file ≡ front ++ last ∷ []

pub last_part : (file : Text) → IsFolderFile file → IsLastPart file
last_part file (inl rule) = subst IsLastPart (sym rule) (
    record {
      one = refl;
      no_git = λ e. absurd (omega (arith, ap length e));
      no_stage = λ e. absurd (omega (arith, ap length e));
      front = codes ".gpg-i";
      last = 100;
      low = omega arith;
      ends = refl;
    }
    )
last_part file (inr template) = subst IsLastPart (sym template) (
    record {
      one = refl;
      no_git = λ e. absurd (omega (arith, ap length e));
      no_stage = λ e. absurd (omega (arith, ap length e));
      front = codes ".pass-templat";
      last = 101;
      low = omega arith;
      ends = refl;
    }
    )

-- ---- the last byte of its path

path_ends : (dir below file front : Text) (last : ℕ) → file ≡ front ++ last ∷ [] → path_in dir (in_folder below file) ≡ path_in dir (front_of below ++ front) ++ last ∷ []
path_ends dir below file front last ends =
    ap (path_in dir) (in_folder_is below file ∙ (ap (λ t. front_of below ++ t) ends ∙ sym (append_assoc (front_of below) front (last ∷ []))))
    ∙ sym (append_assoc dir (47 ∷ (front_of below ++ front)) (last ∷ []))

-- a path whose last byte is higher is another one
pub not_higher : (mounts : List Row) (k : ℕ) (folder file dir us : Text) (b : ℕ) → IsFolderFile file → 101 < b → folder_path mounts k folder file ≢ path_in dir (us ++ b ∷ [])
not_higher mounts k folder file dir us b is high e =
    let named = last_part file is in
    let low = named.low in
    let own = (row_at mounts k).dir in
    let below = folder_rest (row_at mounts k).alias folder in
    let same = last_is (path_in own (front_of below ++ named.front)) (path_in dir us) named.last b
    (sym (path_ends own below file named.front named.last named.ends) ∙ (e ∙ sym (append_assoc dir (47 ∷ us) (b ∷ [])))) in
    absurd (omega (arith, high, low, same))

pub no_secret : (mounts : List Row) (k : ℕ) (folder file name : Text) → IsFolderFile file → folder_path mounts k folder file ≢ secret_path mounts name
no_secret mounts k folder file name is e =
    not_higher mounts k folder file (dir_of mounts name) (rest_of mounts name ++ codes ".gp") 103 is (omega arith)
    (e ∙ ap (path_in (dir_of mounts name)) (sym (append_assoc (rest_of mounts name) (codes ".gp") (103 ∷ []))))

pub rule_no_template : (mounts : List Row) (j k : ℕ) (folder other : Text) → rule_path mounts j folder ≢ template_path mounts k other
rule_no_template mounts j k folder other e =
    let rule_dir = (row_at mounts j).dir in
    let template_dir = (row_at mounts k).dir in
    let rule_below = folder_rest (row_at mounts j).alias folder in
    let template_below = folder_rest (row_at mounts k).alias other in
    absurd (omega (
      arith,
      last_is (path_in rule_dir (front_of rule_below ++ codes ".gpg-i")) (path_in template_dir (front_of template_below ++ codes ".pass-templat")) 100 101
          (sym (path_ends rule_dir rule_below rule_file (codes ".gpg-i") 100 refl) ∙ (e ∙ path_ends template_dir template_below template_file (codes ".pass-templat") 101 refl)),
    ))

-- ---- the parts of its rest

pub each_under : (alias below : Text) → IsFolder (folder_under alias below) → 1 ≤ length below → All IsNamePart (parts below)
each_under [] [] good some = absurd (omega arith)
each_under [] (b ∷ below) good some = good.each
each_under (c ∷ alias) [] good some = absurd (omega arith)
each_under (c ∷ alias) (b ∷ below) good some = behind (parts (c ∷ alias)) (parts (b ∷ below)) (subst (All IsNamePart) (parts_join (c ∷ alias) (b ∷ below)) good.each)
  where
    behind : (ps qs : List Text) → All IsNamePart (ps ++ qs) → All IsNamePart qs
    behind [] qs h = h
    behind (p ∷ ps) qs h = behind ps qs (All-tail IsNamePart p (ps ++ qs) h)

module _ (file : Text) (is : IsFolderFile file) where
  pub parts_in : (b : ℕ) (below : Text) → parts (in_folder (b ∷ below) file) ≡ parts (b ∷ below) ++ file ∷ []
  parts_in b below = (let named = last_part file is in parts_join (b ∷ below) file ∙ ap (λ ps. parts (b ∷ below) ++ ps) named.one)

  no_git_in : (ps : List Text) → All IsNamePart ps → All (λ part. part ≢ codes ".git") (ps ++ file ∷ [])
  no_git_in [] h = (let named = last_part file is in All-cons (λ part. part ≢ codes ".git") file [] named.no_git (All-nil (λ part. part ≢ codes ".git")))
  no_git_in (p ∷ ps) h =
      (let part = All-head IsNamePart p ps h in
      All-cons (λ part. part ≢ codes ".git") p (ps ++ file ∷ []) (λ e. part.plain (subst (λ (t : Text). IsHidden t) (sym e) refl)) (no_git_in ps (All-tail IsNamePart p ps h)))

  rest_no_git : (alias below : Text) → IsFolder (folder_under alias below) → All (λ part. part ≢ codes ".git") (parts (in_folder below file))
  rest_no_git alias [] good = (let named = last_part file is in subst (All (λ part. part ≢ codes ".git")) (sym named.one) (no_git_in [] (All-nil IsNamePart)))
  rest_no_git alias (b ∷ below) good = subst (All (λ part. part ≢ codes ".git")) (sym (parts_in b below)) (no_git_in (parts (b ∷ below)) (each_under alias (b ∷ below) good (omega arith)))

  pub folder_file_lies_in : (mounts : List Row) (k : ℕ) (folder : Text) → IsFolderOf mounts k folder → LiesIn (row_at mounts k).dir (folder_path mounts k folder file)
  folder_file_lies_in mounts k folder own = record {
    rest = in_folder (folder_rest (row_at mounts k).alias folder) file;
    whole = refl;
    no_git = rest_no_git (row_at mounts k).alias (folder_rest (row_at mounts k).alias folder) (full_in mounts k folder own);
  }

  -- ---- it is no file of the store's own

  pub no_stage : (alias below : Text) → IsFolder (folder_under alias below) → LiesIn (codes ".gopass-stage") (in_folder below file) → ⊥
  no_stage alias [] good lies =
      (let named = last_part file is in
      named.no_stage (ap first (sym named.one ∙ (ap parts lies.whole ∙ parts_join (codes ".gopass-stage") lies.rest))))
    where
      first : List Text → Text
      first [] = []
      first (p ∷ ps) = p
  no_stage alias (b ∷ below) good lies = apart (parts (b ∷ below)) (each_under alias (b ∷ below) good (omega arith)) (parts_fill (b ∷ below)).0
      (sym (parts_in b below) ∙ (ap parts lies.whole ∙ parts_join (codes ".gopass-stage") lies.rest))
    where
      first : List Text → Text
      first [] = []
      first (p ∷ ps) = p

      apart : (ps : List Text) → All IsNamePart ps → 0 < length ps → ps ++ file ∷ [] ≡ codes ".gopass-stage" ∷ parts lies.rest → ⊥
      apart [] h some e = absurd (omega arith)
      apart (p ∷ ps) h some e = (let part = All-head IsNamePart p ps h in let same : p ≡ codes ".gopass-stage" = ap first e in part.plain (subst (λ (t : Text). IsHidden t) (sym same) refl))

-- ---- the store shows it

-- what it is below the root directory
below_root : (root : Text) (mounts : List Row) (k : ℕ) (folder file r : Text) → IsTable root mounts → IsFolderOf mounts k folder → folder_path mounts k folder file ≡ path_in root r → in_folder (folder_rest (row_at mounts k).alias folder) file ≡ r
below_root root mounts k folder file r table (good, here) is =
    let some = table.some in
    let first : (row_at mounts 0).dir ≡ root = (table.rows_are.first (omega arith)).1 in
    let rest = in_folder (folder_rest (row_at mounts k).alias folder) file in
    let whole : path_in (row_at mounts k).dir rest ≡ path_in (row_at mounts 0).dir r = is ∙ ap (λ d. path_in d r) (sym first) in
    let same : k ≡ 0 = one_dir root mounts k 0 rest r table here.inside (omega arith) whole in
    let tails : 47 ∷ rest ≡ 47 ∷ r = append_cancel_left (row_at mounts 0).dir (47 ∷ rest) (47 ∷ r) (ap (λ n. path_in (row_at mounts n).dir rest) (sym same) ∙ whole) in
    cc

module _ (root : Text) (files : Files) (mounts : List Row) (k : ℕ) (folder file : Text) (is : IsFolderFile file) (table : IsTable root mounts) (own : IsFolderOf mounts k folder) where
  no_service_rest : (r : Text) → folder_path mounts k folder file ≡ path_in root r → is_service_rest (Some r) ≡ true → ⊥
  no_service_rest r whole e = elim (or_cases (bytes_eq r (codes ".gopass-journal")) (bytes_eq r (codes ".gopass-journal.new") || lies_in (codes ".gopass-stage") r) e) [
    | inl journal ↦ not_higher mounts k folder file root (codes ".gopass-journa") 108 is (omega arith) (whole ∙ ap (path_in root) ((bytes_eq-Decides r (codes ".gopass-journal")).0 journal))
    | inr more ↦ elim (or_cases (bytes_eq r (codes ".gopass-journal.new")) (lies_in (codes ".gopass-stage") r) more) [
      | inl new ↦ not_higher mounts k folder file root (codes ".gopass-journal.ne") 119 is (omega arith) (whole ∙ ap (path_in root) ((bytes_eq-Decides r (codes ".gopass-journal.new")).0 new))
      | inr stage ↦ no_stage file is (row_at mounts k).alias (folder_rest (row_at mounts k).alias folder) (full_in mounts k folder own)
          (subst (LiesIn (codes ".gopass-stage")) (sym (below_root root mounts k folder file r table own whole)) (lies_by (codes ".gopass-stage") r stage))
    ]
  ]

  pub folder_file_plain : is_service root (folder_path mounts k folder file) ≡ false
  folder_file_plain = false_from_ne_true (is_service root (folder_path mounts k folder file)) (by (rest_in root (folder_path mounts k folder file)) refl)
    where
      by : (r : Option Text) → rest_in root (folder_path mounts k folder file) ≡ r → is_service_rest r ≡ true → ⊥
      by None whole e = cc
      by (Some r) whole e = no_service_rest r (rest_is root (folder_path mounts k folder file) r whole) e

  no_own : is_own root (folder_path mounts k folder file) ≡ false
  no_own = false_from_ne_true (is_own root (folder_path mounts k folder file)) (λ e. elim (or_cases (bytes_eq (folder_path mounts k folder file) (path_in root (codes ".gopass-mounts"))) (bytes_eq (folder_path mounts k folder file) (path_in root (codes ".gopass-pending"))) e) [
    | inl same ↦ not_higher mounts k folder file root (codes ".gopass-mount") 115 is (omega arith) ((bytes_eq-Decides (folder_path mounts k folder file) (path_in root (codes ".gopass-mounts"))).0 same)
    | inr same ↦ not_higher mounts k folder file root (codes ".gopass-pendin") 103 is (omega arith) ((bytes_eq-Decides (folder_path mounts k folder file) (path_in root (codes ".gopass-pending"))).0 same)
  ])

  -- the vault shows it
  pub folder_file_shown : without_service root files (folder_path mounts k folder file) ≡ files (folder_path mounts k folder file)
  folder_file_shown = ap (λ (t : Bool). if t then None else files (folder_path mounts k folder file)) folder_file_plain

  -- and it is none of the files that an opening reads by itself
  pub folder_file_stays : tree_files root files (folder_path mounts k folder file) ≡ files (folder_path mounts k folder file)
  folder_file_stays = ap (λ (t : Bool). if t then None else without_service root files (folder_path mounts k folder file)) no_own ∙ folder_file_shown
