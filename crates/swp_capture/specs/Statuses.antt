-- How a run of the program that reads captures is told.
use Rattle.std.specs.Prelude.{ℕ, List, [], ◌++◌, codes}
use Rattle.std.specs.Fmt.{decimal}
use Rattle.vcd_text.specs.declared.fault.VcdFault.{VcdFault}
use Rattle.vcd_text.specs.declared.fault.VcdFault.TheVariants as fault
use Rattle.swp_capture.specs.declared.status.CaptureStatus.{CaptureStatus}
use Rattle.swp_capture.specs.declared.status.CaptureStatus.TheVariants as status

-- the exit status of a run that ended so
abbrev pub capture_code_of : CaptureStatus → ℕ
capture_code_of status.Done = 0
capture_code_of status.BadWords = 2
capture_code_of (status.BadCapture line fault) = 3
capture_code_of status.NoRate = 4
capture_code_of status.ReadFault = 5
capture_code_of status.WriteFault = 6
capture_code_of status.NoMemory = 8
capture_code_of status.TooLong = 9

-- what is wrong with a line of a capture
abbrev pub capture_fault_text : VcdFault → List ℕ
capture_fault_text fault.NoVcd = codes "no declaration"
capture_fault_text fault.NoDefinitions = codes "no end of the declarations"
capture_fault_text fault.NoTimescale = codes "no time scale"
capture_fault_text fault.BadTimescale = codes "bad time scale"
capture_fault_text fault.BadVariable = codes "bad variable"
capture_fault_text fault.NoS1 = codes "no signal S1"
capture_fault_text fault.NoS2 = codes "no signal S2"
capture_fault_text fault.TwoS1 = codes "two signals S1"
capture_fault_text fault.TwoS2 = codes "two signals S2"
capture_fault_text fault.SameSignal = codes "S1 and S2 are one signal"
capture_fault_text fault.BadTime = codes "bad time"
capture_fault_text fault.TimeBack = codes "time goes back"
capture_fault_text fault.TimeTooLarge = codes "time too large"
capture_fault_text fault.BadChange = codes "bad change"
capture_fault_text fault.NoTime = codes "no time"

-- what the program says of a status
abbrev pub capture_line : CaptureStatus → List ℕ
capture_line status.Done = []
capture_line status.BadWords = codes "usage: swp_capture vcd RATE|auto"
capture_line (status.BadCapture line why) = codes "line " ++ (decimal line ++ (codes ": " ++ capture_fault_text why))
capture_line status.NoRate = codes "no rate: fewer than 8 bit periods found"
capture_line status.ReadFault = codes "read failed"
capture_line status.WriteFault = codes "write failed"
capture_line status.NoMemory = codes "out of memory"
capture_line status.TooLong = codes "record too long: more than 16777216 bytes"
