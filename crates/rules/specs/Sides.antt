-- What a conclusion does to its branch, read off its sides.
-- Assumes nothing.
use Rattle.std.specs.Prelude.{List, [], ◌∷◌, ℕ}
use Rattle.lines.specs.declared.line.Line.{Line}
use Rattle.rules.specs.declared.conclusion.Conclusion.{Conclusion}

-- the sides of a conclusion, left first, each the lines that it adds: "New lines follow in the stated order"; "A clash ends its branch."
abbrev pub sides : Conclusion → List (List Line)
sides (Conclusion.One l) = (l ∷ []) ∷ []
sides (Conclusion.Two l m) = (l ∷ m ∷ []) ∷ []
sides (Conclusion.New i l m) = (l ∷ m ∷ []) ∷ []
sides (Conclusion.Fork l r) = (l ∷ []) ∷ (r ∷ []) ∷ []
sides Conclusion.Clash = []

-- the names that it wants fresh
abbrev pub new_names : Conclusion → List ℕ
new_names (Conclusion.One l) = []
new_names (Conclusion.Two l m) = []
new_names (Conclusion.New i l m) = i.number ∷ []
new_names (Conclusion.Fork l r) = []
new_names Conclusion.Clash = []
