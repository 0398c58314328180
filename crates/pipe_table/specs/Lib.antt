pub mod PipeRows
