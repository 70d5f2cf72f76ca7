-- The text of a journal, and what it asks for.
use Rattle.std.specs.Prelude.{◌≡◌, ◌≢◌, ◌≤◌, ◌/◌, ◌%◌, ◌+◌, ℕ, false, List, [], ◌∷◌, ◌++◌, length, codes, All, AllPairs, IsTrue}
use Rattle.std.specs.Str.{is_utf8}
use Rattle.gopass_base.specs.Text.{Text}
use Rattle.gopass_base.specs.Paths.{IsFilePath, path_in}
use Rattle.pending_journal.specs.Service.{is_service, stage_dir}

-- what a journal asks for: the files of the stage are moved to the paths of the puts in their order, and the files at the
-- drops are removed
pub record JournalPlan : Type 0 where
  pub puts : List Text
  pub drops : List Text

-- the paths that it names
abbrev pub paths_of : JournalPlan → List Text
paths_of plan = plan.puts ++ plan.drops

-- a line for each path, and then the rest
abbrev pub put_lines : List Text → Text → Text
put_lines [] rest = rest
put_lines (path ∷ paths) rest = codes "put\t" ++ (path ++ 10 ∷ put_lines paths rest)

abbrev pub drop_lines : List Text → Text → Text
drop_lines [] rest = rest
drop_lines (path ∷ paths) rest = codes "drop\t" ++ (path ++ 10 ∷ drop_lines paths rest)

-- the text, whose last line is `end`
abbrev pub journal_text : JournalPlan → Text
journal_text plan = codes "journal 1\n" ++ put_lines plan.puts (drop_lines plan.drops (codes "end\n"))

-- how many bytes are read of a journal at most. None has more
abbrev pub most_bytes : ℕ
most_bytes = 20000000

-- how many steps there are at most
abbrev pub most_steps : ℕ
most_steps = 16400

-- a journal may ask for this: so many paths of files, each once, none of which is the vault's own
pub record IsJournalPlan (root : Text) (plan : JournalPlan) : Type 0 where
  pub paths : All IsFilePath (paths_of plan)
  pub texts : All (λ path. IsTrue (is_utf8 path)) (paths_of plan)
  pub plain : All (λ path. is_service root path ≡ false) (paths_of plan)
  pub differ : AllPairs (λ a b. a ≢ b) (paths_of plan)
  pub few : length (paths_of plan) ≤ most_steps

-- a decimal digit of a number
abbrev pub digit : ℕ → ℕ
digit n = 48 + n % 10

abbrev pub six_digits : ℕ → Text
six_digits i = digit (i / 100000) ∷ digit (i / 10000) ∷ digit (i / 1000) ∷ digit (i / 100) ∷ digit (i / 10) ∷ digit i ∷ []

-- where the i-th put, from 0, is staged
unfoldable pub stage_path : Text → ℕ → Text
stage_path root i = path_in (stage_dir root) (six_digits i)
