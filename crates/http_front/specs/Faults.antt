-- The counts of faults behind a part of a connection. Our own.
use Rattle.std.specs.Prelude.{ℕ, Result, Ok, Err}
use Rattle.fault_count.specs.Steps.{next_count}
use Rattle.http_front.specs.declared.connection.ConnectionEnd.{ConnectionEnd}
use Rattle.http_front.specs.declared.connection.ConnectionEnd.TheVariants.{ReadFault, WriteFault}
use Rattle.http_front.specs.declared.wire.FillStep.{FillStep}
use Rattle.http_front.specs.declared.wire.FillStep.TheVariants.{ReadFailed}

-- the source's count: one more at ReadFault
abbrev pub read_faults_after : ℕ → ConnectionEnd → ℕ
read_faults_after count ReadFault = next_count count
read_faults_after count _ = count

-- the sink's count: one more at WriteFault
abbrev pub write_faults_after : ℕ → ConnectionEnd → ℕ
write_faults_after count WriteFault = next_count count
write_faults_after count _ = count

abbrev pub read_faults_with : {T : Type 0} → ℕ → Result T ConnectionEnd → ℕ
read_faults_with count (Ok value) = count
read_faults_with count (Err end) = read_faults_after count end

abbrev pub write_faults_with : {T : Type 0} → ℕ → Result T ConnectionEnd → ℕ
write_faults_with count (Ok value) = count
write_faults_with count (Err end) = write_faults_after count end

abbrev pub faults_after_fill : ℕ → FillStep → ℕ
faults_after_fill count ReadFailed = next_count count
faults_after_fill count _ = count
