-- The exit status and the text of each way in which a run can end.
use Rattle.std.specs.Prelude.{ℕ, List, [], ◌∷◌, ◌++◌, codes}
use Rattle.std.specs.Fmt.{decimal}
use Rattle.hex.specs.Hex.{encode_upper}
use Rattle.nv_journal.specs.declared.JournalFault.{JournalFault}
use Rattle.nv_journal.specs.declared.JournalFault.TheVariants as image
use Rattle.schedule_text.specs.declared.fault.LineFault.{LineFault}
use Rattle.schedule_text.specs.declared.fault.LineFault.TheVariants as fault
use Rattle.swp_words.specs.declared.status.Status.{Status}
use Rattle.swp_words.specs.declared.status.Status.TheVariants as status

abbrev pub exit_code_of : Status → ℕ
exit_code_of status.Done = 0
exit_code_of status.BadWords = 2
exit_code_of (status.BadSchedule line why) = 3
exit_code_of (status.Undetected line) = 4
exit_code_of status.ReadFault = 5
exit_code_of status.WriteFault = 6
exit_code_of status.NvFault = 7
exit_code_of status.NoMemory = 8
exit_code_of (status.TooMany count) = 9
exit_code_of (status.BadImage why) = 10

-- what is wrong with a line
abbrev pub fault_text : LineFault → List ℕ
fault_text fault.Word = codes "unknown word"
fault_text (fault.Number at) = codes "bad number in word " ++ decimal at
fault_text (fault.Hex at) = codes "bad hex in word " ++ decimal at
fault_text (fault.Host id) = codes "bad host " ++ encode_upper (id ∷ [])
fault_text fault.Order = codes "out of order"
fault_text fault.TooLong = codes "too long"

-- what is wrong with a memory's content
abbrev pub image_line : JournalFault → List ℕ
image_line image.NvFault = codes "memory failed"
image_line (image.UnknownFormat version) = codes "bad image: version " ++ encode_upper (version ∷ [])
image_line (image.BadRecord at) = codes "bad image: place " ++ decimal at
image_line image.GenerationsSpent = codes "bad image: generations spent"

-- what is said of a line of the schedule
abbrev pub at_line : ℕ → List ℕ → List ℕ
at_line line what = codes "line " ++ (decimal line ++ (codes ": " ++ what))

-- what the program says of a status
abbrev pub status_line : Status → List ℕ
status_line status.Done = []
status_line status.BadWords = codes "usage: swp replay | end ROLE LINK | decode | tables | gen N | tap FORM"
status_line (status.BadSchedule line why) = at_line line (fault_text why)
status_line (status.Undetected line) = at_line line (codes "damage not detected")
status_line status.ReadFault = codes "read failed"
status_line status.WriteFault = codes "write failed"
status_line status.NvFault = codes "memory failed"
status_line status.NoMemory = codes "out of memory"
status_line (status.TooMany count) = codes "too much input: " ++ decimal count
status_line (status.BadImage why) = image_line why
