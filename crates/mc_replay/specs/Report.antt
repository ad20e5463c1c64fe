-- The report of a replay, line by line.
use Rattle.std.specs.Prelude.{ℕ, List, [], ◌∷◌, codes, decimal}
use Rattle.std.specs.List.{concat}
use Rattle.hex.specs.Hex.{encode_lower}
use Rattle.mc_sim.specs.declared.sim.LogEntry.{LogEntry}

-- bytes in hexadecimal, a dash for none
abbrev pub handed_word : List ℕ → List ℕ
handed_word [] = codes "-"
handed_word (byte ∷ bytes) = encode_lower (byte ∷ bytes)

-- conn K seat C HEX
abbrev pub connection_line : ℕ → ℕ → List ℕ → List ℕ
connection_line number seat handed =
    concat (codes "conn " ∷ decimal number ∷ codes " seat " ∷ decimal seat ∷ codes " " ∷ handed_word handed ∷ codes "\n"
    ∷ [])

-- log SHARD CONNECTION TICKET PART TIME
abbrev pub entry_line : LogEntry → List ℕ
entry_line kept =
    concat (codes "log " ∷ decimal kept.shard ∷ codes " " ∷ decimal kept.connection ∷ codes " " ∷ decimal kept.ticket.0
    ∷ codes " " ∷ decimal kept.part ∷ codes " " ∷ decimal kept.moment ∷ codes "\n" ∷ [])

-- done N idle M
abbrev pub counts_line : ℕ → ℕ → List ℕ
counts_line done idle = concat (codes "done " ∷ decimal done ∷ codes " idle " ∷ decimal idle ∷ codes "\n" ∷ [])
