pub mod RisingIds
