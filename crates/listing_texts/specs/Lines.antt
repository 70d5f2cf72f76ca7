-- Texts on lines of their own, and the text of a folder.
use Rattle.std.specs.Prelude.{List, [], ◌∷◌, ◌++◌}
use Rattle.gopass_base.specs.Text.{Text}

-- each text with a line feed behind it
abbrev pub on_lines : List Text → Text
on_lines [] = []
on_lines (text ∷ texts) = text ++ 10 ∷ on_lines texts

-- the root folder is printed as a slash
abbrev pub shown_folder : Text → Text
shown_folder [] = 47 ∷ []
shown_folder (b ∷ folder) = b ∷ folder
