-- The rules as they are printed: for each folder that has one its text, and each id of its rule after two spaces.
use Rattle.std.specs.Prelude.{List, [], ◌∷◌, ◌++◌, codes}
use Rattle.std.specs.FinMap as map
use Rattle.gopass_base.specs.Text.{Text}
use Rattle.recipient_files.specs.Ids.{Ids}
use Rattle.path_rules.specs.RuleMap.{RuleMap}
use Rattle.listing_texts.specs.Lines.{shown_folder}

-- two spaces, the id, and a line feed
abbrev pub id_line : Text → Text
id_line id = codes "  " ++ (id ++ 10 ∷ [])

abbrev pub id_lines : Ids → Text
id_lines [] = []
id_lines (id ∷ ids) = id_line id ++ id_lines ids

-- the line of a folder, and those of the ids of its rule
abbrev pub lines_of_rule : Text → Ids → Text
lines_of_rule folder ids = shown_folder folder ++ 10 ∷ id_lines ids

-- those of each folder with its ids
abbrev pub rule_lines : List (Text × Ids) → Text
rule_lines [] = []
rule_lines (rule ∷ rules) = lines_of_rule rule.0 rule.1 ++ rule_lines rules

-- the folders that have a rule, in the order of their bytes
abbrev pub recipients_listing : RuleMap → Text
recipients_listing rules = rule_lines (map.entries rules)
