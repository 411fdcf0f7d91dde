-- What the faults of a sheet tell: their reasons, their lines, and their words.
use Rattle.std.specs.Prelude.{ℕ, List, ◌++◌, codes, decimal}
use Rattle.rows.specs.Rows.{Reason, numbered}
use Rattle.sheet.specs.declared.fault.SheetFault.{SheetFault}
use Rattle.sheet.specs.declared.fault.SheetFault.TheVariants.{Length, Count, Day, Code}
use Rattle.sheet.specs.declared.fault.WriteFault.{WriteFault}
use Rattle.sheet.specs.declared.fault.WriteFault.TheVariants.{Short, BadSheet}

-- on reading: a bad sheet, whatever the fault
abbrev pub fault_reason : SheetFault → Reason
fault_reason fault = numbered 26

-- on writing: a short array, or a bad sheet
abbrev pub write_reason : WriteFault → Reason
write_reason Short = numbered 16
write_reason BadSheet = numbered 26

-- the line that a fault tells: that of a wrong code, else 0
abbrev pub fault_line : SheetFault → ℕ
fault_line Length = 0
fault_line Count = 0
fault_line Day = 0
fault_line (Code line) = line

-- the words of each fault
abbrev pub fault_message : SheetFault → List ℕ
fault_message Length = codes "length not that of the count"
fault_message Count = codes "count over 256"
fault_message Day = codes "another day"
fault_message (Code line) = codes "no contract code on line " ++ decimal line

abbrev pub write_message : WriteFault → List ℕ
write_message Short = codes "array too short"
write_message BadSheet = codes "trades of no sheet"
